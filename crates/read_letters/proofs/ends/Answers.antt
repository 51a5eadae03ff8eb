-- `read_letters::ends` meets its contract. Assumes nothing.
use Rattle.std.proofs.Common.{refl}
use Rattle.read_letters.proofs.Passing.{ends_law}
use Rattle.read_letters.proofs.ends.Goals as goal

pub returns-then-s-at-eq10 : goal.returns-then-s-at-eq10
returns-then-s-at-eq10 c = ends_law _ _ 10 refl c.requires

pub returns-else-s-at-eq10 : goal.returns-else-s-at-eq10
returns-else-s-at-eq10 c = ends_law _ _ 13 refl c.requires
