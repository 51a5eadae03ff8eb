-- `read_trouble::letters_end` meets its contract. Assumes nothing.
use Rattle.std.proofs.Common.{rules}
use Rattle.read_trouble.proofs.Ends.{lettering}
use Rattle.read_trouble.proofs.letters_end.Goals as goal

pub count_letters-requires : goal.count_letters-requires
count_letters-requires c = search (lettering, rules)

pub returns-in-AtSlash : goal.returns-in-AtSlash
returns-in-AtSlash c = search (lettering, rules)

pub returns-in-AtEnd : goal.returns-in-AtEnd
returns-in-AtEnd c = search (lettering, rules)

pub returns-in-Bad : goal.returns-in-Bad
returns-in-Bad c = search (lettering, rules)
