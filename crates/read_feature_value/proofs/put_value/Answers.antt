-- `read_feature_value::put_value` meets its contract. Assumes nothing.
use Rattle.std.proofs.Common.{rules}
use Rattle.read_feature_value.proofs.Readings.{puts}
use Rattle.read_feature_value.proofs.put_value.Goals as goal

pub returns-then-next-at-eq3 : goal.returns-then-next-at-eq3
returns-then-next-at-eq3 c = search (puts, rules)

pub returns-then-quoted : goal.returns-then-quoted
returns-then-quoted c = search (puts, rules)

pub returns : goal.returns
returns c = search (puts, rules)
