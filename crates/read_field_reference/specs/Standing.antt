-- Laws of texts that stand where entries say: seen from an earlier place, and their lengths. Assumes nothing.
use Rattle.std.specs.Prelude.{ℕ, ◌≤◌, ◌≡◌, refl, Bool, List, length}
use Rattle.std.proofs.Common.{arith}
use Rattle.spec_format.specs.Bytes.{May, absent, is}
use Rattle.spec_format.specs.Rooms.{piece_text, perhaps}
use Rattle.read_field_entry.specs.declared.Entry.{Entry}
use Rattle.read_field_optional.specs.declared.MayEntry.{MayEntry}
use Rattle.read_field_optional.specs.declared.MayEntry.TheVariants as may
use Rattle.read_field_optional.specs.Fields.{Stands, MayStand, may_length}

pub stands_from : (s : List ℕ) (a b : ℕ) (keep : Bool) (t : List ℕ) (e : Entry) → a ≤ b → Stands s b keep t e → Stands s a keep t e
stands_from s a b keep t e l h =
    record { again = h.again; sized = h.sized; from = omega (arith, l, h.from); ahead = h.ahead; within = h.within; small = h.small }

pub may_from : (s : List ℕ) (a b : ℕ) (keep : Bool) (t : May (List ℕ)) (e : MayEntry) → a ≤ b → MayStand s b keep t e → MayStand s a keep t e
may_from s a b keep absent may.Absent l h = tt
may_from s a b keep absent (may.Is e) l h = h
may_from s a b keep (is t) may.Absent l h = h
may_from s a b keep (is t) (may.Is e) l h = stands_from s a b keep t e l h

pub may_sized : (s : List ℕ) (at : ℕ) (keep : Bool) (t : May (List ℕ)) (e : MayEntry) → MayStand s at keep t e → may_length e ≡ length (piece_text (perhaps t))
may_sized s at keep absent may.Absent h = refl
may_sized s at keep absent (may.Is e) h = absurd h
may_sized s at keep (is t) may.Absent h = absurd h
may_sized s at keep (is t) (may.Is e) h = h.sized
