-- `read_field_entry::grown` meets its contract. Assumes nothing.
use Rattle.read_field_entry.proofs.grown.Goals as goal

pub returns-then-keep : goal.returns-then-keep
returns-then-keep c = rw c.if-keep.true

pub returns-else-keep : goal.returns-else-keep
returns-else-keep c = rw c.if-keep.false
