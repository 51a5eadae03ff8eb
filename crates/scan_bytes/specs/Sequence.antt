-- What a caller takes from a step or a line: its places, and what follows in a sequence of readers, by the answer to the first.
use Rattle.std.specs.Prelude.{ℕ, zero, suc, ◌-◌, ◌≤◌, ◌<◌, ◌≡◌, refl, Bool, true, false, List, [], length, drop}
use Rattle.std.proofs.Common.{subst, arith}
use Rattle.spec_format.specs.Bytes.{some}
use Rattle.spec_format.specs.Readers.{Ans, got, no, cut, bind, passing}
use Rattle.scan_bytes.specs.declared.Step.{Step}
use Rattle.scan_bytes.specs.declared.Step.TheVariants as step
use Rattle.scan_bytes.specs.declared.Line.{Line}
use Rattle.scan_bytes.specs.declared.Line.TheVariants as line
use Rattle.scan_bytes.specs.Places.{part}
use Rattle.scan_bytes.specs.Views.{Past, PastOne, Stepped, Texted, Emptied, PastLine, Lined}
use Rattle.spec_format.specs.Impossible.{impossible}

-- ---- places

pub step_places : {s : List ℕ} {at : ℕ} {o : Ans Unit} {r : Step} {n : ℕ} → Stepped s at o r → r ≡ step.Got n → (at ≤ n) × (n ≤ length s)
step_places {s} {at} h e = subst (λ (x : Step). Past s at x) e h.place

pub text_places : {s : List ℕ} {at : ℕ} {o : Ans (List ℕ)} {r : Step} {n : ℕ} → Texted s at o r → r ≡ step.Got n → (at ≤ n) × (n ≤ length s)
text_places {s} {at} h e = subst (λ (x : Step). Past s at x) e h.place

pub empty_places : {s : List ℕ} {at : ℕ} {o : Ans (List ℕ)} {r : Step} {n : ℕ} → Emptied s at o r → r ≡ step.Got n → (at < n) × (n ≤ length s)
empty_places {s} {at} h e = subst (λ (x : Step). PastOne s at x) e h.place

pub line_places : {s : List ℕ} {at : ℕ} {o : Ans (List ℕ)} {r : Line} {e n : ℕ} → Lined s at o r → r ≡ line.Got e n → (at ≤ e) × (e < n) × (n ≤ length s)
line_places {s} {at} h q = subst (λ (x : Line). PastLine s at x) q h.place

-- the same, one by one, for `search`
pub step_within : (s : List ℕ) (at : ℕ) (o : Ans Unit) (r : Step) (n : ℕ) → Stepped s at o r → r ≡ step.Got n → n ≤ length s
step_within s at o r n h e = (step_places h e).1

pub text_within : (s : List ℕ) (at : ℕ) (o : Ans (List ℕ)) (r : Step) (n : ℕ) → Texted s at o r → r ≡ step.Got n → n ≤ length s
text_within s at o r n h e = (text_places h e).1

pub empty_within : (s : List ℕ) (at : ℕ) (o : Ans (List ℕ)) (r : Step) (n : ℕ) → Emptied s at o r → r ≡ step.Got n → n ≤ length s
empty_within s at o r n h e = (empty_places h e).1

pub line_within : (s : List ℕ) (at : ℕ) (o : Ans (List ℕ)) (r : Line) (e n : ℕ) → Lined s at o r → r ≡ line.Got e n → n ≤ length s
line_within s at o r e n h q = (line_places h q).2

-- ---- what was answered

pub step_is : {s : List ℕ} {at : ℕ} {o : Ans Unit} {r : Step} {n : ℕ} → Stepped s at o r → r ≡ step.Got n → o ≡ got tt (drop n s)
step_is h e = rw (← h.is, e)

pub text_is : {s : List ℕ} {at : ℕ} {o : Ans (List ℕ)} {r : Step} {n : ℕ} → Texted s at o r → r ≡ step.Got n → o ≡ got (part at n s) (drop n s)
text_is h e = rw (← h.is, e)

pub line_is : {s : List ℕ} {at : ℕ} {o : Ans (List ℕ)} {r : Line} {e n : ℕ} → Lined s at o r → r ≡ line.Got e n → o ≡ got (part at e s) (drop n s)
line_is h q = rw (← h.is, q)

-- a run of one byte at least goes on by one byte at least
module _ {s : List ℕ} {at : ℕ} (o : Ans (List ℕ)) {r : Step} {n : ℕ} where
  pub text_some : Texted s at (passing some o) r → r ≡ step.Got n → at < n
  text_some h e = long (n - at) refl (passed o (text_is h e))
    where
      true_false : ◌≡◌ {A = Bool} false true → ⊥
      true_false q = impossible cc

      passed : (o : Ans (List ℕ)) → passing some o ≡ got (part at n s) (drop n s) → some (part at n s) ≡ true
      passed (got t z) q = go (some t) refl
        where
          go : (x : Bool) → some t ≡ x → some (part at n s) ≡ true
          go true k = let g = rw k at q in cc
          go false k = let g = rw k at q in cc
      passed no q = cc
      passed cut q = cc

      long : (k : ℕ) → n - at ≡ k → some (part at n s) ≡ true → at < n
      long zero k q = let z = rw k at q in absurd (true_false z)
      long (suc m) k q = omega arith

-- ---- what follows, by what was answered first

module _ {B : Type 0} (s : List ℕ) (at : ℕ) (o : Ans Unit) (r : Step) (f : Unit → List ℕ → Ans B) where
  pub step_no : Stepped s at o r → r ≡ step.No → no ≡ bind o f
  step_no h e = rw (← h.is, e)

  pub step_cut : Stepped s at o r → r ≡ step.Cut → cut ≡ bind o f
  step_cut h e = rw (← h.is, e)

  pub step_got : (n : ℕ) (q : Ans B) → Stepped s at o r → r ≡ step.Got n → q ≡ f tt (drop n s) → q ≡ bind o f
  step_got n q h e g = rw (← h.is, e) g

module _ {B : Type 0} (s : List ℕ) (at : ℕ) (o : Ans (List ℕ)) (r : Step) (f : List ℕ → List ℕ → Ans B) where
  pub text_no : Texted s at o r → r ≡ step.No → no ≡ bind o f
  text_no h e = rw (← h.is, e)

  pub text_cut : Texted s at o r → r ≡ step.Cut → cut ≡ bind o f
  text_cut h e = rw (← h.is, e)

  pub text_got : (n : ℕ) (q : Ans B) → Texted s at o r → r ≡ step.Got n → q ≡ f (part at n s) (drop n s) → q ≡ bind o f
  text_got n q h e g = rw (← h.is, e) g

  pub empty_no : Emptied s at o r → r ≡ step.No → no ≡ bind o f
  empty_no h e = rw (← h.is, e)

  pub empty_cut : Emptied s at o r → r ≡ step.Cut → cut ≡ bind o f
  empty_cut h e = rw (← h.is, e)

  pub empty_got : (n : ℕ) (q : Ans B) → Emptied s at o r → r ≡ step.Got n → q ≡ f [] (drop n s) → q ≡ bind o f
  empty_got n q h e g = rw (← h.is, e) g

module _ {B : Type 0} (s : List ℕ) (at : ℕ) (o : Ans (List ℕ)) (r : Line) (f : List ℕ → List ℕ → Ans B) where
  pub line_no : Lined s at o r → r ≡ line.No → no ≡ bind o f
  line_no h q = rw (← h.is, q)

  pub line_cut : Lined s at o r → r ≡ line.Cut → cut ≡ bind o f
  line_cut h q = rw (← h.is, q)

  pub line_got : (e n : ℕ) (x : Ans B) → Lined s at o r → r ≡ line.Got e n → x ≡ f (part at e s) (drop n s) → x ≡ bind o f
  line_got e n x h q g = rw (← h.is, q) g

pub ruleset sequence = (
  step_within,
  text_within,
  empty_within,
  line_within,
  step_no,
  step_cut,
  step_got,
  text_no,
  text_cut,
  text_got,
  empty_no,
  empty_cut,
  empty_got,
  line_no,
  line_cut,
  line_got,
)
