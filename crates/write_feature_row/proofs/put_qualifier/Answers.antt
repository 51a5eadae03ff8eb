-- Key and value, which is absent where its length plus one is 0.
use Rattle.std.proofs.Common.{ℕ, ◌+◌, ◌-◌, List, ◌++◌, take, drop, length-take, length-drop, get_or, ap, arith}
use Rattle.spec_format.specs.Bytes.{bytes}
use Rattle.spec_format.specs.Rooms.{qualifier_in, text_in, cut}
use Rattle.spec_format.specs.Write.{key_text, qualifier_text, qualifier_lines}
use Rattle.write_header.specs.Rows.{part_is, perhaps_none, perhaps_some}
use Rattle.base_pen.specs.Pen.{Writes, writes_as}
use Rattle.write_feature_row.proofs.put_qualifier.Goals as goal

pub overflow_add-end : goal.overflow_add-end
overflow_add-end c = omega (arith, c.requires.0.small, c.requires.0.inside.value (omega arith))

pub slice_bounds-put_value-end-2 : goal.slice_bounds-put_value-end-2
slice_bounds-put_value-end-2 c = omega (arith, c.requires.0.inside.value (omega arith))

pub put_value-requires : goal.put_value-requires
put_value-requires c =
    (simp (length-take, length-drop) (omega (arith, c.requires.0.small)), simp (length-take, length-drop) (omega (arith, c.requires.0.small)), c.requires.1, c.requires.2)

pub returns : goal.returns
unfolding qualifier_lines qualifier_in
returns c =
    let a = c.args in
    writes_as (ap (qualifier_text a.width (text_in a.texts.now a.qualifiers.now a.row)) (perhaps_some a.texts.now _ _ c.if-n-eq0.false)) (simp part_is at c.put_value.ensures)

-- the key, cut from the texts by its end
flag : {l n : List ℕ} {i k : ℕ} (texts : List ℕ) (x m : ℕ) → Writes l i (key_text (take (x + m - x) (drop x texts)) ++ bytes "\n") n k → Writes l i (key_text (cut texts x m) ++ bytes "\n") n k
flag texts x m w = simp part_is at w

pub returns-then-n-eq0 : goal.returns-then-n-eq0
unfolding qualifier_lines qualifier_in
returns-then-n-eq0 c =
    let a = c.args in
    let none = perhaps_none a.texts.now (get_or a.qualifiers.now (a.row + 2) 0) _ c.if-n-eq0.true in
    let key = flag a.texts.now (get_or a.qualifiers.now a.row 0) (get_or a.qualifiers.now (a.row + 1) 0) c.put_flag.ensures in
    writes_as (ap (qualifier_text a.width (text_in a.texts.now a.qualifiers.now a.row)) none) key
