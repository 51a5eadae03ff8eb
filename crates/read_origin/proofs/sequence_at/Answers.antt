-- `read_origin::sequence_at` meets its contract. Assumes nothing.
use Rattle.std.proofs.Common.{rules}
use Rattle.read_origin.proofs.Laws.{sequencing}
use Rattle.read_origin.proofs.sequence_at.Goals as goal

pub slashes_after-requires : goal.slashes_after-requires
slashes_after-requires c = search (sequencing, rules)

pub returns-then-may_number : goal.returns-then-may_number
returns-then-may_number c = search (sequencing, rules)

pub returns-then-must_number : goal.returns-then-must_number
returns-then-must_number c = search (sequencing, rules)

pub bad_letter-requires : goal.bad_letter-requires
bad_letter-requires c = search (sequencing, rules)

pub returns-else-may_number : goal.returns-else-may_number
returns-else-may_number c = search (sequencing, rules)

pub returns-else-must_number : goal.returns-else-must_number
returns-else-must_number c = search (sequencing, rules)

pub returns-in-Bad : goal.returns-in-Bad
returns-in-Bad c = search (sequencing, rules)
