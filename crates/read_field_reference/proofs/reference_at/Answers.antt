-- `read_field_reference::reference_at` meets its contract. Assumes nothing.
use Rattle.std.proofs.Common.{rules}
use Rattle.read_field_reference.proofs.Laws.{known_front, known_back, referring}
use Rattle.read_field_reference.proofs.reference_at.Goals as goal

pub returns-in-No : goal.returns-in-No
returns-in-No c = search (referring, rules)

pub returns-in-Cut : goal.returns-in-Cut
returns-in-Cut c = search (referring, rules)

pub returns-in-No-back_at : goal.returns-in-No-back_at
returns-in-No-back_at c = search (referring, rules)

pub returns-in-Cut-back_at : goal.returns-in-Cut-back_at
returns-in-Cut-back_at c = search (referring, rules)

pub returns-in-Got-back_at : goal.returns-in-Got-back_at
returns-in-Got-back_at c = search (referring, rules)
