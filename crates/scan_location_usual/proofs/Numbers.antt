-- Digits and base numbers where they stand in a text, law by law, in the form in which the goals have their facts. Assumes nothing.
use Prim.Native.Nat.{ℕ, ◌+◌, ◌-◌, ◌*◌, ◌^◌, ◌≤◌, ◌<◌}
use mathlib.Core.Path.{◌≡◌, refl, sym, ap, ◌∙◌}
use mathlib.Core.Bool.{Bool, true, false}
use mathlib.Core.List.{List, [], ◌∷◌}
use native.Mathlib.Omega.{arith}
use lib.ListN.{length, get_or}
use borrow.Author.Tests.{leb-true, le-leb, ne_eqb}
use lib.Dec.{leb}
use Rattle.spec_format.specs.Bytes.{starts, but, between, digit, number}
use Rattle.spec_format.specs.Location.{found, run, past, base_number}
use Rattle.spec_location.specs.Tests.{and_left, and_right}
use Rattle.scan_location_bytes.specs.Spots.{view_byte, run_more, past_more, run_none, past_none}
use Rattle.scan_location_bytes.specs.declared.Laid.{Laid}
use Rattle.scan_location_bytes.specs.Views.{view}
use Rattle.scan_location_usual.specs.declared.Run.{Run}
use Rattle.scan_location_usual.specs.Usuals.{Onward, DigitsTo, NumberTo}

abbrev pub to : ℕ → ℕ → Run
to v i = record { value = v; next = i }

-- ---- a byte

digit_low : (b : ℕ) → digit b ≡ true → 48 ≤ b
digit_low b e = leb-true 48 b (and_left (leb 48 b) (leb b 57) e)

digit_high : (b : ℕ) → digit b ≡ true → b ≤ 57
digit_high b e = leb-true b 57 (and_right (leb 48 b) (leb b 57) e)

pub digit_sub : (b : ℕ) (t : Bool) → t ≡ digit b → t ≡ true → 48 ≤ b
digit_sub b t k f = digit_low b (sym k ∙ f)

number_more : (v b : ℕ) (ds : List ℕ) → number v (b ∷ ds) ≡ number (10 * v + (b - 48)) ds
unfolding number
number_more v b ds = refl

-- one byte of the text, and then the rest
module _ (s : List ℕ) (i : ℕ) (h : i < length s) (k : digit (get_or s i 0) ≡ true) where
  view_more : (laid : Laid) → view laid s i ≡ get_or s i 0 ∷ view laid s (i + 1)
  view_more laid = let l = digit_low (get_or s i 0) k in (view_byte laid s i h (omega arith)).is

  run_more_here : (laid : Laid) → run digit (view laid s i) ≡ get_or s i 0 ∷ run digit (view laid s (i + 1))
  run_more_here laid = ap (run digit) (view_more laid) ∙ run_more digit (get_or s i 0) (view laid s (i + 1)) k

  past_more_here : (laid : Laid) → past digit (view laid s i) ≡ past digit (view laid s (i + 1))
  past_more_here laid = ap (past digit) (view_more laid) ∙ past_more digit (get_or s i 0) (view laid s (i + 1)) k

  onward_more : (at : ℕ) → Onward s at i → Onward s at (i + 1)
  onward_more at o = record { long = λ laid. omega (arith, o.long laid, ap length (view_more laid)); from = omega (arith, o.from); within = omega arith }

pub onward_here : (s : List ℕ) (at : ℕ) → at ≤ length s → Onward s at at
onward_here s at h = record { long = λ laid. refl; from = omega arith; within = h }

pub onward_then : {s : List ℕ} {a b c : ℕ} → Onward s a b → Onward s b c → Onward s a c
onward_then o p = record { long = λ laid. o.long laid ∙ p.long laid; from = omega (arith, o.from, p.from); within = p.within }

-- ---- the digits that follow

pub digits_start : (s : List ℕ) (at v : ℕ) → at ≤ length s → v ≤ 9 → DigitsTo s at v (to v at)
digits_start s at v h g = record { is = λ laid. refl; rest = λ laid. refl; small = omega arith; on = onward_here s at h }

module _ (s : List ℕ) (at v₀ v i : ℕ) (c : DigitsTo s at v₀ (to v i)) (h : i < length s) (t : Bool) (k : t ≡ digit (get_or s i 0)) (f : t ≡ true) where
  abbrev b : ℕ
  b = get_or s i 0

  one_more : digit b ≡ true
  one_more = sym k ∙ f

  pub digits_more : (d : ℕ) → d ≡ b - 48 → v ≤ 429496728 → DigitsTo s at v₀ (to (10 * v + d) (i + 1))
  digits_more d w l =
      let hi = digit_high b one_more in
      record {
        is = λ laid. c.is laid ∙ ap (number v) (run_more_here s i h one_more laid) ∙ number_more v b (run digit (view laid s (i + 1))) ∙
            ap (λ (x : ℕ). number (10 * v + x) (run digit (view laid s (i + 1)))) (sym w);
        rest = λ laid. c.rest laid ∙ past_more_here s i h one_more laid;
        small = omega arith;
        on = onward_more s i h one_more at c.on;
      }

  pub digits_fits : (d : ℕ) → d ≡ b - 48 → v ≤ 429496728 → 10 * v + d < 2 ^ 64
  digits_fits d w l = let hi = digit_high b one_more in omega arith

pub ruleset digiting = (digit_sub, digits_start, digits_more, digits_fits)

-- ---- a base number, which begins with 1 to 9

pub one_low : (b : ℕ) (t : Bool) → t ≡ between 49 57 b → t ≡ true → 48 ≤ b
one_low b t k f = let h = leb-true 49 b (and_left (leb 49 b) (leb b 57) (sym k ∙ f)) in omega arith

pub one_value : (b : ℕ) (t : Bool) (d : ℕ) → t ≡ between 49 57 b → t ≡ true → d ≡ b - 48 → d ≤ 9
one_value b t d k f e = let h = leb-true b 57 (and_right (leb 49 b) (leb b 57) (sym k ∙ f)) in omega arith

one_digit : (b : ℕ) → between 49 57 b ≡ true → digit b ≡ true
one_digit b h =
    let l = leb-true 49 b (and_left (leb 49 b) (leb b 57) h) in
    let u = leb-true b 57 (and_right (leb 49 b) (leb b 57) h) in
    cc (le-leb 48 b (omega arith), le-leb b 57 u)

one_start : (b : ℕ) (t : List ℕ) → between 49 57 b ≡ true → starts (but 48) (b ∷ t) ≡ true
one_start b t h = let l = leb-true 49 b (and_left (leb 49 b) (leb b 57) h) in rw (ne_eqb b 48 (λ e. omega arith))

base_is : (s ds : List ℕ) (v : ℕ) → run digit s ≡ ds → starts (but 48) ds ≡ true → number 0 ds ≡ v → v ≤ 4294967295 → base_number s ≡ found v (past digit s)
unfolding base_number
base_is s ds v e f g l = rw (e, f, g, le-leb v 4294967295 l)

number_none : (v : ℕ) → number v [] ≡ v
unfolding number
number_none v = refl

module _ (s : List ℕ) (at : ℕ) (h : at < length s) (t : Bool) (k : t ≡ between 49 57 (get_or s at 0)) (f : t ≡ true) (d : ℕ) (e : d ≡ get_or s at 0 - 48) (r : Run)
    (c : DigitsTo s (at + 1) d r) where
  abbrev first : ℕ
  first = get_or s at 0

  one : between 49 57 first ≡ true
  one = sym k ∙ f

  more : Onward s at (at + 1)
  more = onward_more s at h (one_digit first one) at (onward_here s at (omega arith))

  module _ (laid : Laid) (n : starts digit (view laid s r.next) ≡ false) where
    abbrev rest : List ℕ
    rest = view laid s (at + 1)

    number_is : number 0 (first ∷ run digit rest) ≡ r.value
    number_is =
        let z : 10 * 0 + (first - 48) ≡ d = omega arith in
        number_more 0 first (run digit rest) ∙ ap (λ (x : ℕ). number x (run digit rest)) z ∙ c.is laid ∙
        ap (number r.value) (run_none digit (view laid s r.next) n) ∙ number_none r.value

    base_stands : base_number (view laid s at) ≡ found r.value (view laid s r.next)
    base_stands =
        base_is (view laid s at) (first ∷ run digit rest) r.value (run_more_here s at h (one_digit first one) laid) (one_start first (run digit rest) one) number_is c.small ∙
        ap (found r.value) (past_more_here s at h (one_digit first one) laid ∙ c.rest laid ∙ past_none digit (view laid s r.next) n)

  pub number_stands : NumberTo s at r
  number_stands = record { is = λ laid _ n. base_stands laid n; on = onward_then more c.on }

pub number_missing : (s : List ℕ) (at : ℕ) → at ≤ length s → NumberTo s at (to 0 at)
number_missing s at h = record { is = λ laid z n. absurd (z refl); on = onward_here s at h }

pub ruleset numbering = (one_low, one_value, number_stands, number_missing)
