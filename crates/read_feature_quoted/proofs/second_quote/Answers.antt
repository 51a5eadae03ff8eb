-- `read_feature_quoted::second_quote` meets its contract. Assumes nothing.
use Rattle.std.proofs.Common.{rules}
use Rattle.scan_bytes.specs.Sequence.{sequence}
use Rattle.read_feature_quoted.proofs.Steps.{seconds}
use Rattle.read_feature_quoted.proofs.second_quote.Goals as goal

pub overflow_sub-s : goal.overflow_sub-s
overflow_sub-s c = search (seconds, sequence, rules)

pub returns-then-s-i-ne34 : goal.returns-then-s-i-ne34
returns-then-s-i-ne34 c = search (seconds, sequence, rules)

pub indent-requires : goal.indent-requires
indent-requires c = search (seconds, sequence, rules)

pub quote_at-requires : goal.quote_at-requires
quote_at-requires c = search (seconds, sequence, rules)

pub returns-in-Got-indent : goal.returns-in-Got-indent
returns-in-Got-indent c = search (seconds, sequence, rules)

pub returns-in-No-indent : goal.returns-in-No-indent
returns-in-No-indent c = search (seconds, sequence, rules)

pub returns-in-Cut-indent : goal.returns-in-Cut-indent
returns-in-Cut-indent c = search (seconds, sequence, rules)

pub returns-in-No : goal.returns-in-No
returns-in-No c = search (seconds, sequence, rules)

pub returns-in-Cut : goal.returns-in-Cut
returns-in-Cut c = search (seconds, sequence, rules)
