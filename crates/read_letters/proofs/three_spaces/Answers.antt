-- `read_letters::three_spaces` meets its contract. Assumes nothing.
use Rattle.std.proofs.Common.{rules}
use Rattle.read_letters.proofs.Passing.{spacing}
use Rattle.read_letters.proofs.three_spaces.Goals as goal

pub returns-then-s-at-eq32-2 : goal.returns-then-s-at-eq32-2
returns-then-s-at-eq32-2 c = search (spacing, rules)

pub returns-else-s-at-eq32-2 : goal.returns-else-s-at-eq32-2
returns-else-s-at-eq32-2 c = search (spacing, rules)

pub returns-else-s-at-eq32 : goal.returns-else-s-at-eq32
returns-else-s-at-eq32 c = search (spacing, rules)
