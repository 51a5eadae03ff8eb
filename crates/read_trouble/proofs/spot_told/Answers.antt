-- `read_trouble::spot_told` meets its contract. Assumes nothing.
use Rattle.std.proofs.Common.{rules}
use Rattle.read_trouble.proofs.Told.{telling}
use Rattle.read_trouble.proofs.spot_told.Goals as goal

pub no_spot-requires : goal.no_spot-requires
no_spot-requires c = search (telling, rules)

pub returns-then-s-gt-MOST : goal.returns-then-s-gt-MOST
returns-then-s-gt-MOST c = search (telling, rules)

pub no_spot-requires-then-s-at : goal.no_spot-requires-then-s-at
no_spot-requires-then-s-at c = search (telling, rules)

pub returns-then-s-at : goal.returns-then-s-at
returns-then-s-at c = search (telling, rules)

pub answer_spot-requires : goal.answer_spot-requires
answer_spot-requires c = search (telling, rules)
