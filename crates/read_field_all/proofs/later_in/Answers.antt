-- `read_field_all::later_in` meets its contract. Assumes nothing.
use Rattle.read_field_all.proofs.later_in.Goals as goal

pub returns-in-Absent : goal.returns-in-Absent
returns-in-Absent c = rw (← c.entry_in.ensures, c.in-Absent.is)

pub returns-in-Is : goal.returns-in-Is
returns-in-Is c = rw (← c.entry_in.ensures, c.in-Is.is)
