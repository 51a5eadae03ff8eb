-- `read_field_all::entry_amount` meets its contract. Assumes nothing.
use Rattle.read_field_all.proofs.entry_amount.Goals as goal

pub returns-in-Absent : goal.returns-in-Absent
returns-in-Absent c = rw c.in-Absent.is

pub returns-in-Is : goal.returns-in-Is
returns-in-Is c = rw c.in-Is.is
