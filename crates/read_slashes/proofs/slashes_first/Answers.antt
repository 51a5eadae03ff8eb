-- `slashes_first` tests two bytes.
use Rattle.std.proofs.Common.{eq-eqb, ne_eqb, rules}
use Rattle.read_slashes.proofs.slashes_first.Goals as goal

ruleset tests = (eq-eqb, ne_eqb)

pub returns-then-rest-eq47 : goal.returns-then-rest-eq47
returns-then-rest-eq47 c = search (tests, rules)

pub returns-else-rest-eq47 : goal.returns-else-rest-eq47
returns-else-rest-eq47 c = search (tests, rules)
