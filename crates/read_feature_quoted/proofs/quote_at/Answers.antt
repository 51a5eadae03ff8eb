-- `read_feature_quoted::quote_at` meets its contract. Assumes nothing.
use Rattle.std.proofs.Common.{rules}
use Rattle.scan_bytes.specs.Sequence.{sequence}
use Rattle.read_feature_quoted.proofs.Steps.{quotes}
use Rattle.read_feature_quoted.proofs.quote_at.Goals as goal

pub returns-then-s-at : goal.returns-then-s-at
returns-then-s-at c = search (quotes, sequence, rules)

pub returns-then-s-at-ne34 : goal.returns-then-s-at-ne34
returns-then-s-at-ne34 c = search (quotes, sequence, rules)

pub returns : goal.returns
returns c = search (quotes, sequence, rules)
