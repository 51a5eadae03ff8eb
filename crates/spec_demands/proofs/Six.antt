-- Why 6 is answered only when the call would succeed with more room, and what its sizes then are.
use Rattle.std.specs.Prelude.{ℕ, Bool, true, false, List, ◌↔◌, ◌≡◌, refl}
use Rattle.std.proofs.Math.Path.{sym}
use Rattle.std.proofs.Common.{ap, ◌∙◌}
use Rattle.spec_format.specs.Impossible.{impossible}
use Rattle.spec_format.specs.Numbers.{read_number}
use Rattle.spec_format.specs.Record.{Outcome, was_read, not_read}
use Rattle.spec_format.specs.Rooms.{Rooms, layout, sizes, fits, read_answer, over_rooms}
use Rattle.spec_format.specs.Strict.{read_by}
use Rattle.spec_format.specs.Table.{Table}
use Rattle.spec_format.specs.declared.ReadAnswer.{ReadAnswer}
use Rattle.spec_format.specs.declared.ReadAnswer.TheVariants as read
use Rattle.spec_format.specs.declared.Sizes.{Sizes}
use Rattle.spec_rooms.specs.LayoutLengths.{layout_lengths}
use Rattle.spec_contracts.specs.Equal.{rooms_after_lem}
use Rattle.spec_contracts.specs.Reads.{Answered}
use Rattle.spec_demands.specs.Answers.{unread_not_six, answer_short, answer_number, answer_not, after_laid}
use Rattle.spec_demands.specs.What.{MoreRoom, Uses}
use Rattle.spec_demands.specs.Six.{number_fits}

-- ---- reading

module _ (strict : Bool) (s : List ℕ) (at : ℕ) (t : Table) (rest : List ℕ) (e : read_by strict s at ≡ was_read t rest) (q : Rooms) where
  by_fits : (read_number (read_answer strict s at q) ≡ 0) ↔ (fits (sizes t) q ≡ true)
  by_fits = (to (fits (sizes t) q) refl, λ f. answer_number strict s at q t rest true e f)
    where
      to : (b : Bool) → fits (sizes t) q ≡ b → read_number (read_answer strict s at q) ≡ 0 → fits (sizes t) q ≡ true
      to true f z = f
      to false f z = let x = answer_number strict s at q t rest false e f in impossible cc

more_room : (strict : Bool) (s : List ℕ) (at : ℕ) (t : Table) (rest : List ℕ) → read_by strict s at ≡ was_read t rest → (q : Rooms) → fits (sizes t) q ≡ false → MoreRoom strict s at q (sizes t)
more_room strict s at t rest e q f =
    record {
      short = f;
      exact = λ more after a c.
          let b = by_fits strict s at t rest e more in
          ((λ z. b.0 (sym (ap read_number c.is) ∙ z)), (λ g. ap read_number c.is ∙ b.1 g));
    }

laid_uses : (t : Table) (n : Sizes) (more after : Rooms) → n ≡ sizes t → after ≡ over_rooms (layout t) more → Uses n more after
laid_uses t n more after w e =
    let l = layout_lengths t in
    record {
      laid = layout t;
      after_is = e;
      texts = rw w l.texts;
      references = rw w l.references;
      comments = rw w l.comments;
      features = rw w l.features;
      qualifiers = rw w l.qualifiers;
      locations = rw w l.locations;
      letters = rw w l.letters;
    }

module _ (strict : Bool) (s : List ℕ) (at : ℕ) (old new : Rooms) (a : ReadAnswer) (call : Answered strict s at old new a) where
  -- six tells that a table was read that does not fit
  pub record SixBy : Type 0 where
    table : Table
    rest : List ℕ
    reads : read_by strict s at ≡ was_read table rest
    over : fits (sizes table) old ≡ false

  pub six_by : read_number a ≡ 6 → SixBy
  six_by z = go (read_by strict s at) refl
    where
      fitted : (t : Table) (rest : List ℕ) → read_by strict s at ≡ was_read t rest → (b : Bool) → fits (sizes t) old ≡ b → SixBy
      fitted t rest e true f = let x = number_fits strict s at old new a call t rest true e f in impossible cc
      fitted t rest e false f = record { table = t; rest = rest; reads = e; over = f }

      go : (o : Outcome) → read_by strict s at ≡ o → SixBy
      go (was_read t rest) e = fitted t rest e (fits (sizes t) old) refl
      go (not_read why) e = absurd (unread_not_six why (sym (answer_not strict s at old why e) ∙ sym (ap read_number call.is) ∙ z))

  pub six_more : read_number a ≡ 6 → (n : Sizes) × MoreRoom strict s at old n
  six_more z = let b = six_by z in (sizes b.table, more_room strict s at b.table b.rest b.reads old b.over)

  module _ (n : Sizes) (told : a ≡ read.Room n) where
    sizes_are : (b : SixBy) → n ≡ sizes b.table
    sizes_are b =
        let w : read.Room n ≡ read.Room (sizes b.table) = sym told ∙ (call.is ∙ answer_short strict s at old b.table b.rest b.reads b.over) in
        cc

    pub told_more : MoreRoom strict s at old n
    told_more = let b = six_by (ap read_number told) in rw (sizes_are b) (more_room strict s at b.table b.rest b.reads old b.over)

    pub told_used : (more after : Rooms) (x : ReadAnswer) → Answered strict s at more after x → read_number x ≡ 0 → Uses n more after
    told_used more after x c z =
        let b = six_by (ap read_number told) in
        laid_uses b.table n more after (sizes_are b) (rooms_after_lem strict s at more after x c ∙ after_laid strict s at more b.table b.rest b.reads (sym (ap read_number c.is) ∙ z))
