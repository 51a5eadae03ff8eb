-- By whether there is a text.
use Rattle.std.proofs.Common.{ℕ, ◌+◌, ◌-◌, ◌≡◌, rules, length-take, length-drop, arith}
use Rattle.base_pen.specs.Pen.{writes_nil}
use Rattle.write_record_end.proofs.put_contig_text.Goals as goal

part_is : (start n : ℕ) → start + n - start ≡ n
part_is start n = omega arith

pub overflow_add-end : goal.overflow_add-end
overflow_add-end c = let w = rw c.in-Some.is at c.requires.1 in search rules

pub slice_bounds-put_contig-end : goal.slice_bounds-put_contig-end
slice_bounds-put_contig-end c = let w = rw c.in-Some.is at c.requires.1 in search rules

pub put_contig-requires : goal.put_contig-requires
put_contig-requires c = (simp (length-take, length-drop) (omega (arith, c.requires.0)), c.requires.2, c.requires.3)

pub returns-in-None : goal.returns-in-None
returns-in-None c = rw c.in-None.is writes_nil

pub returns-in-Some : goal.returns-in-Some
returns-in-Some c = rw c.in-Some.is (simp part_is at c.put_contig.ensures)
