-- What is known of an entry once its answer is, by the way out that was taken; and sequences of readers whose first has read. Assumes nothing.
use Rattle.std.specs.Prelude.{ℕ, ◌≡◌, Bool, List}
use Rattle.std.proofs.Common.{ap, ◌∙◌, subst}
use Rattle.spec_format.specs.Bytes.{May}
use Rattle.spec_format.specs.Readers.{Ans, got, no, cut, bind}
use Rattle.read_field_entry.specs.declared.Entry.{Entry}
use Rattle.read_field_entry.specs.declared.EntryAt.{EntryAt}
use Rattle.read_field_entry.specs.declared.EntryAt.TheVariants as entry
use Rattle.read_field_entry.specs.Entries.{Known, EntryAs, Enters}
use Rattle.read_field_optional.specs.declared.MayEntry.{MayEntry}
use Rattle.read_field_optional.specs.declared.MayEntryAt.{MayEntryAt}
use Rattle.read_field_optional.specs.declared.MayEntryAt.TheVariants as may_at
use Rattle.read_field_optional.specs.Fields.{Stands, MayKnown, MayEnterAs, MayEnter}

module _ {s : List ℕ} {at : ℕ} {keep : Bool} {o : Ans (List ℕ)} where
  pub known_entry : {r : EntryAt} {e : Entry} → Enters s at keep o r → r ≡ entry.Got e → Known s at keep o e
  known_entry h q = subst (λ (x : EntryAt). EntryAs s at keep o x) q h.is

  pub no_entry : {r : EntryAt} → Enters s at keep o r → r ≡ entry.No → o ≡ no
  no_entry h q = subst (λ (x : EntryAt). EntryAs s at keep o x) q h.is

  pub cut_entry : {r : EntryAt} → Enters s at keep o r → r ≡ entry.Cut → o ≡ cut
  cut_entry h q = subst (λ (x : EntryAt). EntryAs s at keep o x) q h.is

  pub entry_stands : {e : Entry} (w : Known s at keep o e) → Stands s at keep w.the e
  entry_stands w = record { again = w.again; sized = w.sized; from = w.from; ahead = w.ahead; within = w.within; small = w.small }

module _ {s : List ℕ} {at : ℕ} {keep : Bool} {o : Ans (May (List ℕ))} where
  pub known_may : {r : MayEntryAt} {e : MayEntry} {next : ℕ} → MayEnter s at keep o r → r ≡ may_at.Got e next → MayKnown s at keep o e next
  known_may h q = subst (λ (x : MayEntryAt). MayEnterAs s at keep o x) q h.is

  pub cut_may : {r : MayEntryAt} → MayEnter s at keep o r → r ≡ may_at.Cut → o ≡ cut
  cut_may h q = subst (λ (x : MayEntryAt). MayEnterAs s at keep o x) q h.is

-- the second reader starts where the first has ended
pub then_got : {A B : Type 0} {o : Ans A} {x : A} {r : List ℕ} {z : Ans B} (f : A → List ℕ → Ans B) → o ≡ got x r → f x r ≡ z → bind o f ≡ z
then_got {A} f e k = ap (λ (x : Ans A). bind x f) e ∙ k
