-- `read_trouble::answer_spot` meets its contract. Assumes nothing.
use Rattle.std.proofs.Common.{rules}
use Rattle.read_trouble.proofs.Told.{telling}
use Rattle.read_trouble.proofs.answer_spot.Goals as goal

pub no_spot-requires : goal.no_spot-requires
no_spot-requires c = search (telling, rules)

pub refusal_spot-requires : goal.refusal_spot-requires
refusal_spot-requires c = search (telling, rules)

pub locus_spot-requires : goal.locus_spot-requires
locus_spot-requires c = search (telling, rules)

pub returns-in-Done : goal.returns-in-Done
returns-in-Done c = search (telling, rules)

pub returns-in-Refused : goal.returns-in-Refused
returns-in-Refused c = search (telling, rules)

pub returns-in-Room : goal.returns-in-Room
returns-in-Room c = search (telling, rules)
