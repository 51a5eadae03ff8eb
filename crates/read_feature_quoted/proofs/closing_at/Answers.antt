-- `read_feature_quoted::closing_at` meets its contract. Assumes nothing.
use Rattle.std.proofs.Common.{rules}
use Rattle.scan_bytes.specs.Sequence.{sequence}
use Rattle.read_feature_quoted.proofs.Steps.{quote_within}
use Rattle.read_feature_quoted.proofs.Pieces.{closings}
use Rattle.read_feature_quoted.proofs.closing_at.Goals as goal

pub line_end-requires : goal.line_end-requires
line_end-requires c = search (closings, quote_within, sequence, rules)

pub returns-in-Got-line_end : goal.returns-in-Got-line_end
returns-in-Got-line_end c = search (closings, quote_within, sequence, rules)

pub returns-in-No-line_end : goal.returns-in-No-line_end
returns-in-No-line_end c = search (closings, quote_within, sequence, rules)

pub returns-in-Cut-line_end : goal.returns-in-Cut-line_end
returns-in-Cut-line_end c = search (closings, quote_within, sequence, rules)

pub returns-in-No : goal.returns-in-No
returns-in-No c = search (closings, quote_within, sequence, rules)

pub returns-in-Cut : goal.returns-in-Cut
returns-in-Cut c = search (closings, quote_within, sequence, rules)
