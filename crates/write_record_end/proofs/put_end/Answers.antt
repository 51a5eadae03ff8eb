-- The letters that count, and the two slashes.
use Rattle.base_pen.specs.Pen.{writes_append}
use native.Mathlib.Nat.{sub-zero}
use Rattle.write_record_end.proofs.put_end.Goals as goal

pub returns : goal.returns
returns c = writes_append (rw sub-zero at c.put_origin-next.ensures) c.put_all.ensures
