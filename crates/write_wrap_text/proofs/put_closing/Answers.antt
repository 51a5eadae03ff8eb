-- `write_wrap_text::put_closing` meets its contract. Assumes nothing.
use Rattle.base_pen.specs.Pen.{writes_append}
use Rattle.write_wrap_text.proofs.put_closing.Goals as goal

pub returns : goal.returns
returns c = simp (c.if-not-quote.false, c.if-free.false) (writes_append c.put_break-a.ensures c.put_all-2.ensures)
