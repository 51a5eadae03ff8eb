-- An entry: where its text stands, and what reading it gives.
use Rattle.std.specs.Prelude.{ℕ, ◌+◌, ◌≤◌, ◌<◌, ◌≡◌, Bool, List, length, drop}
use Rattle.spec_format.specs.Readers.{Ans, got, no, cut, bind, tag, spaces1}
use Rattle.spec_format.specs.Header.{field_text}
use Rattle.scan_utf8.specs.declared.State.{State}
use Rattle.scan_utf8.specs.States.{start, Ran}
use Rattle.read_field_entry.specs.declared.Entry.{Entry}
use Rattle.read_field_entry.specs.declared.Found.{Found}
use Rattle.read_field_entry.specs.declared.Found.TheVariants as found
use Rattle.read_field_entry.specs.declared.EntryAt.{EntryAt}
use Rattle.read_field_entry.specs.declared.EntryAt.TheVariants as entry

-- after the word, and after the indent
unfoldable pub gapped : ℕ → ℕ → Bool → List ℕ → Ans (List ℕ)
gapped indent word keep s = bind (spaces1 s) λ gap s. field_text (indent + length gap + word) keep s

unfoldable pub worded : ℕ → List ℕ → Bool → List ℕ → Ans (List ℕ)
worded indent word keep s = bind (tag word s) λ _ s. gapped indent (length word) keep s

-- an entry's text is `the`, read by o and again from the entry's own places
pub record Known (s : List ℕ) (at : ℕ) (keep : Bool) (o : Ans (List ℕ)) (e : Entry) : Type 0 where
  pub the : List ℕ
  pub is : o ≡ got the (drop e.next s)
  pub again : field_text e.columns keep (drop e.text s) ≡ got the (drop e.next s)
  pub sized : e.length ≡ length the
  pub from : at ≤ e.text
  pub ahead : e.text < e.next
  pub within : e.next ≤ length s
  pub small : e.length + e.text ≤ e.next

-- the same, and the text leaves the test of UTF-8 in `state`
pub record Run (s : List ℕ) (at : ℕ) (keep : Bool) (o : Ans (List ℕ)) (e : Entry) (state : State) : Type 0 where
  pub known : Known s at keep o e
  pub ran : Ran start known.the state

abbrev pub FoundAs : List ℕ → ℕ → Bool → Ans (List ℕ) → Found → Type 0
FoundAs s at keep o (found.Got e state) = Run s at keep o e state
FoundAs s at keep o found.No = o ≡ no
FoundAs s at keep o found.Cut = o ≡ cut

pub record Finds (s : List ℕ) (at : ℕ) (keep : Bool) (o : Ans (List ℕ)) (r : Found) : Type 0 where
  pub is : FoundAs s at keep o r

abbrev pub EntryAs : List ℕ → ℕ → Bool → Ans (List ℕ) → EntryAt → Type 0
EntryAs s at keep o (entry.Got e) = Known s at keep o e
EntryAs s at keep o entry.No = o ≡ no
EntryAs s at keep o entry.Cut = o ≡ cut

pub record Enters (s : List ℕ) (at : ℕ) (keep : Bool) (o : Ans (List ℕ)) (r : EntryAt) : Type 0 where
  pub is : EntryAs s at keep o r
