-- The code's answer as a reader's: the text stands beside it, as the slice does, since an answer holds no text.
use Rattle.std.specs.Prelude.{ℕ, ◌+◌, ◌≤◌, ◌<◌, ◌≡◌, Bool, true, false, List, length, drop}
use Rattle.std.proofs.Common.{subst}
use Rattle.spec_format.specs.Readers.{Ans, got, no, cut, passing}
use Rattle.read_feature_joined.specs.declared.Value.{Value}
use Rattle.read_feature_joined.specs.declared.Value.TheVariants as value

abbrev pub value_of : List ℕ → List ℕ → Value → Ans (List ℕ)
value_of s t (value.Got n next) = got t (drop next s)
value_of s t value.No = no
value_of s t value.Cut = cut

-- the text t is n bytes long, and comes from bytes from `at` up to `next`
pub record Span (s : List ℕ) (at : ℕ) (t : List ℕ) (n next : ℕ) : Type 0 where
  pub from : at < next
  pub within : next ≤ length s
  pub long : n ≡ length t
  pub short : n + at ≤ next

abbrev pub PastValue : List ℕ → ℕ → List ℕ → Value → Type 0
PastValue s at t (value.Got n next) = Span s at t n next
PastValue s at t value.No = Unit
PastValue s at t value.Cut = Unit

pub record Valued (s : List ℕ) (at : ℕ) (t : List ℕ) (o : Ans (List ℕ)) (r : Value) : Type 0 where
  pub is : value_of s t r ≡ o
  pub place : PastValue s at t r

pub value_places : {s : List ℕ} {at : ℕ} {t : List ℕ} {o : Ans (List ℕ)} {r : Value} {n next : ℕ} → Valued s at t o r → r ≡ value.Got n next → Span s at t n next
value_places {s} {at} {t} h e = subst (λ (x : Value). PastValue s at t x) e h.place

pub value_is : {s : List ℕ} {at : ℕ} {t : List ℕ} {o : Ans (List ℕ)} {r : Value} {n next : ℕ} → Valued s at t o r → r ≡ value.Got n next → o ≡ got t (drop next s)
value_is h e = rw (← h.is, e)

-- what was read passes a test, or does not
module _ {t z : List ℕ} {o : Ans (List ℕ)} (p : List ℕ → Bool) where
  pub passing_got : o ≡ got t z → p t ≡ true → got t z ≡ passing p o
  passing_got e h = rw (e, h)

  pub passing_no : o ≡ got t z → p t ≡ false → no ≡ passing p o
  passing_no e h = rw (e, h)
