-- One row more and the last row: of the lines that are left to write, and of the tests of the rows.
use Prim.Native.Nat.{ℕ, suc, ◌+◌, ◌-◌, ◌*◌, ◌≤◌, ◌<◌}
use Rattle.std.specs.Prelude.{Option, Some, None, slice_get, ◌≡◌, refl, Bool, true, false, ◌&&◌, List, [], ◌++◌}
use Rattle.std.proofs.Common.{sym, ◌∙◌, append_assoc}
use native.Mathlib.Omega.{arith}
use Rattle.spec_format.specs.Rooms.{span_text, rows_from, location_fine}
use Rattle.spec_format.specs.Table.{Feature as Described}
use Rattle.spec_format.specs.Write.{feature_lines}
use Rattle.base_pen.specs.Pen.{Writes, sets_past}
use Rattle.base_rows.specs.Flat.{fetched_stands}
use Rattle.base_rows.specs.declared.Feature.{Feature}
use Rattle.judge_location.specs.Told.{location_rooms, location_fine_alike}
use Rattle.judge_rooms.specs.Steps.{feature_located}
use Rattle.write_record_parts.specs.Parts.{after_parts}
use Rattle.write_record_parts.specs.Split.{feature_at}
use Rattle.write_record_turns.specs.Answered.{Asking, rows_of, text_from}
use Rattle.write_record_turns.specs.States.{pass}

-- a write to no room leaves no room
pub nowhere : {x n : List ℕ} {i k : ℕ} → Writes [] i x n k → Writes [] i x [] k
nowhere {x} {n} {i} {k} w = record { fit = λ h. record { is = sym (sets_past x [] i (omega arith)); to = (w.fit h).to }; up = w.up }

module _ (a : Asking) (rows : List Feature) (i : ℕ) where
  abbrev pub feature : Described
  feature = feature_at a.texts a.qualifiers rows (8 * i)

  pub text_more : i < a.head.features → text_from a rows i ≡ feature_lines a.how.width feature ++ text_from a rows (i + 1)
  unfolding text_from rows_from
  text_more h =
      let k : a.head.features - i ≡ suc (a.head.features - (i + 1)) = omega arith in
      rw k (append_assoc (feature_lines a.how.width feature) _ _)

  pub text_last : a.head.features ≤ i → text_from a rows i ≡ after_parts a.texts a.letters a.head a.how.width
  unfolding text_from rows_from
  text_last h = let k : a.head.features - i ≡ 0 = omega arith in rw k

  pub pass_more : (p : Described → Bool) → i < a.head.features → pass a rows p i ≡ (p feature && pass a rows p (i + 1))
  unfolding rows_from
  pass_more p h =
      let k : a.head.features - i ≡ suc (a.head.features - (i + 1)) = omega arith in
      rw k

  pub pass_last : (p : Described → Bool) → a.head.features ≤ i → pass a rows p i ≡ true
  unfolding rows_from
  pass_last p h = let k : a.head.features - i ≡ 0 = omega arith in rw k

-- number 10 of a row's location rows is that of the row among the flat numbers
pub located_of_row : (a : Asking) (rows : List Feature) (i : ℕ) (f : Feature) → slice_get rows i ≡ Some f
    → location_fine false (location_rooms [] a.locations) (span_text a.texts f.location) f.row f.rows ≡ feature_located (rows_of a rows) (8 * i)
located_of_row a rows i f e =
    let s = fetched_stands rows i f e in
    let y : 8 * i + 3 ≡ 8 * i + 2 + 1 = omega arith in
    location_fine_alike false (rows_of a rows) (span_text a.texts f.location) f.row f.rows ∙ rw (s.location, rw y at s.location_length, s.row, s.rows)

pub and_assoc : (x y z : Bool) → (x && (y && z)) ≡ ((x && y) && z)
and_assoc true y z = refl
and_assoc false y z = refl

pub and_true : (x : Bool) → (x && true) ≡ x
and_true true = refl
and_true false = refl
