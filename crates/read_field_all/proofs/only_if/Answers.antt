-- `read_field_all::only_if` meets its contract. Assumes nothing.
use Rattle.read_field_all.proofs.only_if.Goals as goal

pub returns-then-yes : goal.returns-then-yes
returns-then-yes c = rw c.if-yes.true

pub returns-else-yes : goal.returns-else-yes
returns-else-yes c = rw c.if-yes.false
