-- `read_feature_key_end::equals_at` meets its contract. Assumes nothing.
use Rattle.std.proofs.Common.{rules}
use Rattle.scan_bytes.specs.Sequence.{sequence}
use Rattle.read_feature_key_end.proofs.Tails.{tails}
use Rattle.read_feature_key_end.proofs.equals_at.Goals as goal

pub returns-then-s-at : goal.returns-then-s-at
returns-then-s-at c = search (tails, sequence, rules)

pub bounds-s-at : goal.bounds-s-at
bounds-s-at c = search (tails, sequence, rules)

pub returns-then-s-at-ne61 : goal.returns-then-s-at-ne61
returns-then-s-at-ne61 c = search (tails, sequence, rules)

pub overflow_add-result : goal.overflow_add-result
overflow_add-result c = search (tails, sequence, rules)

pub returns : goal.returns
returns c = search (tails, sequence, rules)
