-- `read_origin::bad_letter` meets its contract. Assumes nothing.
use Rattle.std.proofs.Common.{rules}
use Rattle.read_origin.proofs.Laws.{stray_there, bad_there}
use Rattle.read_origin.proofs.bad_letter.Goals as goal

pub returns-then-is_letter : goal.returns-then-is_letter
returns-then-is_letter c = search (stray_there, rules)

pub returns : goal.returns
returns c = search (bad_there, rules)
