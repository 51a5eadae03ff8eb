-- A feature's location in a slice: the finder's answer as a reader's, and where the text stands.
use Rattle.std.specs.Prelude.{ℕ, ◌+◌, ◌*◌, ◌≤◌, ◌≡◌, Bool, true, false, List, length, drop}
use Rattle.std.proofs.Common.{subst}
use Rattle.std.proofs.lemmas.List.Edits.{sets}
use Rattle.spec_format.specs.Readers.{Ans, got, no, cut}
use Rattle.spec_format.specs.Location.{rows_in}
use Rattle.spec_format.specs.Rooms.{location_numbers}
use Rattle.scan_bytes.specs.Places.{part}
use Rattle.read_location.specs.declared.Location.{Location}
use Rattle.read_location.specs.declared.Location.TheVariants as location
use Rattle.read_feature_joined.specs.Views.{Span}
use Rattle.read_feature_location.specs.declared.Located.{Located}
use Rattle.read_feature_location.specs.declared.Located.TheVariants as located

-- what is answered for a text of n bytes, by what the location reader answered; a text that has no reading is not taken
abbrev pub taken_of : Location → ℕ → ℕ → Bool → Located
taken_of (location.Read rows same) n next line = located.Got n next rows line
taken_of location.None n next line = located.No
taken_of location.TooDeep n next line = located.No

abbrev pub located_of : List ℕ → List ℕ → Located → Ans (List ℕ)
located_of s t (located.Got n next rows line) = got t (drop next s)
located_of s t located.No = no
located_of s t located.Cut = cut

-- the text t stands there and has this many rows, no more than bytes; `line` is said only of a text in one line
pub record LocationSpan (s : List ℕ) (at : ℕ) (t : List ℕ) (n next rows : ℕ) (line : Bool) : Type 0 where
  pub span : Span s at t n next
  pub counted : rows ≡ length (rows_in false t)
  pub few : rows ≤ n
  pub single : line ≡ true → t ≡ part at (at + n) s

abbrev pub PastLocated : List ℕ → ℕ → List ℕ → Located → Type 0
PastLocated s at t (located.Got n next rows line) = LocationSpan s at t n next rows line
PastLocated s at t located.No = Unit
PastLocated s at t located.Cut = Unit

pub record LocationFound (s : List ℕ) (at : ℕ) (t : List ℕ) (o : Ans (List ℕ)) (r : Located) : Type 0 where
  pub is : located_of s t r ≡ o
  pub place : PastLocated s at t r

module _ {s : List ℕ} {at : ℕ} {t : List ℕ} {o : Ans (List ℕ)} {r : Located} {n next rows : ℕ} {line : Bool}
    (h : LocationFound s at t o r) (e : r ≡ located.Got n next rows line) where
  pub location_places : LocationSpan s at t n next rows line
  location_places = subst (λ (x : Located). PastLocated s at t x) e h.place

  pub found_is : o ≡ got t (drop next s)
  found_is = rw (← h.is, e)

-- and its rows are put: `old` became `new`
abbrev pub RowsPut : List ℕ → List ℕ → ℕ → List ℕ → Located → Type 0
RowsPut old new first t (located.Got n next rows line) = new ≡ sets old (7 * first) (location_numbers (rows_in false t))
RowsPut old new first t located.No = Unit
RowsPut old new first t located.Cut = Unit

pub record LocationPut (s : List ℕ) (at : ℕ) (t : List ℕ) (o : Ans (List ℕ)) (old new : List ℕ) (first : ℕ) (r : Located) : Type 0 where
  pub found : LocationFound s at t o r
  pub put : RowsPut old new first t r

pub location_put : {s : List ℕ} {at : ℕ} {t : List ℕ} {o : Ans (List ℕ)} {old new : List ℕ} {first : ℕ} {r : Located} {n next rows : ℕ} {line : Bool}
    → LocationPut s at t o old new first r → r ≡ located.Got n next rows line → new ≡ sets old (7 * first) (location_numbers (rows_in false t))
location_put {t = t} {old = old} {new = new} {first = first} h e = subst (λ (x : Located). RowsPut old new first t x) e h.put
