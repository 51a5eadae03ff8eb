-- `read_field_rows::put_fields` meets its contract. Assumes nothing.
use Rattle.std.proofs.Common.{◌-◌, ◌≤◌, ◌≡◌, length, drop}
use Rattle.read_field_all.specs.Gathered.{fields_at}
use Rattle.read_field_rows.specs.Pieces.{wanted}
use Rattle.read_field_rows.specs.Puts.{begun}
use Rattle.read_field_rows.proofs.Walking.{Walking}
use Rattle.read_field_rows.proofs.put_fields.Given as goal

abbrev pub invariant-loop-pens : goal.invariant-loop-pens
invariant-loop-pens l =
    (l.i ≤ length l.s) × (length l.texts ≡ length l.initial.texts) × (length l.rows ≡ length l.initial.rows) ×
    Walking l.s l.comments l.initial.texts l.initial.rows (begun l.place) (wanted l.comments (fields_at (drop l.at l.s))) l.texts l.rows l.pens l.i

abbrev pub decreases-loop-pens : goal.decreases-loop-pens
decreases-loop-pens l = length l.s - l.i
