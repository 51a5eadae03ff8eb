-- `read_field_text::put_line` meets its contract. Assumes nothing.
use Rattle.read_field_text.proofs.Putting.{line_kept, line_plain}
use Rattle.read_field_text.proofs.put_line.Goals as goal

pub returns-then-keep : goal.returns-then-keep
returns-then-keep c = line_kept _ _ c.if-keep.true c.put-p.ensures c.put_all.ensures

pub returns : goal.returns
returns c = line_plain _ _ c.if-keep.false c.put_all-2.ensures
