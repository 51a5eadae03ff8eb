-- A turn does what its part does, and keeps what a state says.
use Rattle.std.specs.Prelude.{Option, Some, None, slice_get, ℕ, ◌≤◌, ◌<◌, ◌≡◌, refl, Bool, true, false, List}
use Rattle.std.proofs.Common.{sym, subst, ◌∙◌, arith}
use Rattle.write_feature_row.specs.Flat.{row_known}
use Rattle.spec_format.specs.Rooms.{features_fine}
use Rattle.base_rows.specs.declared.Feature.{Feature}
use Rattle.judge_rooms.specs.Facts.{contig_in_lem, features_each}
use Rattle.judge_rooms.proofs.Facts.{rooms_in_lem}
use Rattle.judge_rooms.specs.Parts.{rest_head}
use Rattle.write_record_turns.specs.Answered.{Asking, rows_of, rest_of, Asked, ended_well}
use Rattle.write_record_turns.specs.declared.State.{State}
use Rattle.spec_format.specs.Impossible.{impossible}
use Rattle.spec_contracts.specs.Writes.{LengthFits, WriteAnswered}
use Rattle.write_record_turns.specs.States.{Judged, Putting, HeldBy, Held, Judges, Decides, Puts, Ends, Steady, Steps}

module _ (a : Asking) (rows : List Feature) (old : List ℕ) (s : State) (out : List ℕ) (g : s.going ≡ true) (k : Held a rows old s out) where
  on_by : HeldBy true s.putting a rows old s out
  on_by = subst (λ (b : Bool). HeldBy b s.putting a rows old s out) g k

  judged_of : s.putting ≡ false → Judged a rows old s out
  judged_of p = subst (λ (b : Bool). HeldBy true b a rows old s out) p on_by

  putting_of : s.putting ≡ true → Putting a rows old s out
  putting_of p = subst (λ (b : Bool). HeldBy true b a rows old s out) p on_by

module _ (a : Asking) (s : State) (f : Option Feature) (out : List ℕ) (r : State) (new : List ℕ) where
  pub step_judges : s.row < a.head.features → s.putting ≡ false → new ≡ out → Judges a.texts a.qualifiers a.locations a.how s f r → Steps a s f out r new
  step_judges less p same j =
      record { by = λ rows old e g k. rw same (j.by a.references a.comments a.letters a.head rows old out e less g p (judged_of a rows old s out g k p)) }

  pub step_puts : s.row < a.head.features → s.putting ≡ true → Puts a.texts a.qualifiers a.how s f out r new → Steps a s f out r new
  step_puts less p j = record { by = λ rows old e g k. j.by a.references a.comments a.locations a.letters a.head rows old e less g p (putting_of a rows old s out g k p) }

  pub step_decides : a.head.features ≤ s.row → s.putting ≡ false → Decides a s out r new → Steps a s f out r new
  step_decides last p j = record { by = λ rows old e g k. j.by rows old last g p (judged_of a rows old s out g k p) }

  pub step_ends : a.head.features ≤ s.row → s.putting ≡ true → Ends a.texts a.letters a.head a.how s out r new → Steps a s f out r new
  step_ends last p j = record { by = λ rows old e g k. j.by a.references a.comments a.qualifiers a.locations rows old last g p (putting_of a rows old s out g k p) }

-- what a state says is what the turn asks
asked_steady : (a : Asking) (rows : List Feature) (s : State) (f : Option Feature) → Asked a rows → s.row ≤ a.head.features
    → (s.putting ≡ true → features_fine (rows_of a rows) 0 0 a.head.features ≡ true) → f ≡ slice_get rows s.row → Steady a s f
asked_steady a rows s f k o i e =
    record {
      passed = k.passed;
      contig = contig_in_lem (rest_of a) a.head.contig k.lies;
      few = omega (arith, k.few, k.enough);
      row = λ p less x y.
          let m = features_each (rows_of a rows) 0 0 a.head.features s.row (i p) (omega arith) (omega arith) in
          row_known a.texts a.qualifiers rows s.row x (sym e ∙ y)
          (rooms_in_lem (rest_of a) (rest_head a.head) k.passed.rooms).lengths.texts
          (record { kind = m.kind; location = m.location; qualifiers = m.qualifiers });
    }

pub steady : (a : Asking) (rows : List Feature) (old : List ℕ) (s : State) (out : List ℕ) (f : Option Feature) → s.going ≡ true → Held a rows old s out → f ≡ slice_get rows s.row → Steady a s f
steady a rows old s out f g k e = go s.putting refl
  where
    go : (p : Bool) → s.putting ≡ p → Steady a s f
    go false p =
        let j : Judged a rows old s out = judged_of a rows old s out g k p in
        asked_steady a rows s f j.asked j.order (λ y. absurd (differ (sym p ∙ y))) e
      where
        differ : false ≡ true → ⊥
        differ x = impossible cc
    go true p = let j : Putting a rows old s out = putting_of a rows old s out g k p in asked_steady a rows s f j.asked j.order (λ y. j.rooms) e

-- where nothing is left to do, the answer stands
pub ended_answer : (a : Asking) (rows : List Feature) (old : List ℕ) (s : State) (out : List ℕ) → LengthFits a.head.length → s.going ≡ false → Held a rows old s out
    → WriteAnswered a.how (rows_of a rows) a.head old out s.answer
ended_answer a rows old s out f g k = ended_well a rows old out s.answer f (subst (λ (b : Bool). HeldBy b s.putting a rows old s out) g k)
