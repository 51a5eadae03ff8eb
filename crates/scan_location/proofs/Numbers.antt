-- Base numbers, law by law, in the form in which the goals have their facts. Assumes nothing.
use Prim.Native.Nat.{ℕ, ◌+◌, ◌-◌, ◌*◌, ◌^◌, ◌≤◌, ◌<◌}
use mathlib.Core.Path.{◌≡◌, refl, sym, ap, ◌∙◌}
use mathlib.Core.Bool.{Bool, true, false}
use mathlib.Core.List.{List, [], ◌∷◌}
use native.Mathlib.Omega.{arith}
use native.Mathlib.Nat.{le_trans}
use lib.ListN.{length}
use lib.Dec.{leb}
use borrow.Author.Tests.{le-leb, lt-leb, leb-true, ne_eqb}
use Rattle.spec_format.specs.Bytes.{starts, but, digit, number}
use Rattle.spec_format.specs.Location.{found, fault, run, past, base_number}
use Rattle.spec_format.specs.Impossible.{impossible}
use Rattle.scan_location_bytes.specs.declared.Laid.{Laid}
use Rattle.scan_location_bytes.specs.declared.Spot.{Spot}
use Rattle.scan_location_bytes.specs.declared.Peek.{Peek}
use Rattle.scan_location_bytes.specs.declared.Peek.TheVariants as peek
use Rattle.scan_location_bytes.specs.Views.{view, Ready, Onto, Peeked}
use Rattle.scan_location_bytes.specs.Spots.{spot, past_onto, onto_here, past_ready, byte_past, peek_byte, peek_none, run_more, past_more, run_none, past_none}
use Rattle.scan_location.specs.declared.Digit.{Digit}
use Rattle.scan_location.specs.declared.Digit.TheVariants as digits
use Rattle.scan_location.specs.declared.Number.{Number}
use Rattle.scan_location.specs.declared.Number.TheVariants as numbers
use Rattle.scan_location.specs.Views.{AtDigit, Digited, CountedIs, Counted, NumberIs, Numbered}

-- ---- a digit

digit_low : (b : ℕ) → digit b ≡ true → 48 ≤ b
digit_low b e = go (leb 48 b) refl
  where
    go : (x : Bool) → leb 48 b ≡ x → 48 ≤ b
    go true f = leb-true 48 b f
    go false f = impossible cc

digit_high : (b : ℕ) → digit b ≡ true → b ≤ 57
digit_high b e = go (leb 48 b) refl (leb b 57) refl
  where
    go : (x : Bool) → leb 48 b ≡ x → (y : Bool) → leb b 57 ≡ y → b ≤ 57
    go x f true g = leb-true b 57 g
    go true f false g = impossible cc
    go false f false g = impossible cc

digit_of : (v : ℕ) → v ≤ 9 → digit (48 + v) ≡ true
digit_of v h = let a : 48 ≤ 48 + v = omega arith in let b : 48 + v ≤ 57 = omega arith in rw (le-leb _ _ a) (le-leb _ _ b)

module _ (laid : Laid) (s : List ℕ) (p : Spot) (r : Peek) (h : Peeked laid s p.at r) where
  pub digit_end : r ≡ peek.End → Digited laid s p digits.None
  digit_end e = record { by = ap (starts digit) (peek_none laid s p.at r h e) }

  module _ (b n : ℕ) (e : r ≡ peek.Byte b n) (t : Bool) (k : t ≡ digit b) where
    pub digit_is : Ready laid s p → t ≡ true → Digited laid s p (digits.Is (b - 48) (spot n (p.off + 1)))
    digit_is g f =
        let a = peek_byte laid s p.at r h b n e in
        let l = digit_low b (sym k ∙ f) in
        let u = digit_high b (sym k ∙ f) in
        let z : 48 + (b - 48) ≡ b = omega arith in
        record { by = record { is = rw z a.is; small = omega arith; past = byte_past g a } }

    pub digit_not : t ≡ false → Digited laid s p digits.None
    digit_not f = record { by = ap (starts digit) (peek_byte laid s p.at r h b n e).is ∙ sym k ∙ f }

pub digit_sub : (b : ℕ) (t : Bool) → t ≡ digit b → t ≡ true → 48 ≤ b
digit_sub b t k f = digit_low b (sym k ∙ f)

pub ruleset digiting = (digit_end, digit_is, digit_not, digit_sub)

module _ (laid : Laid) (s : List ℕ) (p : Spot) (r : Digit) (h : Digited laid s p r) where
  digit_at : (v : ℕ) (q : Spot) → r ≡ digits.Is v q → AtDigit laid s p v q
  digit_at v q e = rw e at h.by

  digit_none : r ≡ digits.None → starts digit (view laid s p.at) ≡ false
  digit_none e = rw e at h.by

  pub digit_small : (v : ℕ) (q : Spot) → r ≡ digits.Is v q → v ≤ 9
  digit_small v q e = (digit_at v q e).small

  pub digit_ready : (v : ℕ) (q : Spot) → r ≡ digits.Is v q → Ready laid s p → Ready laid s q
  digit_ready v q e g = past_ready g (digit_at v q e).past

-- ---- the digits that follow

number_least : (v : ℕ) (ds : List ℕ) → v ≤ number v ds
unfolding number
number_least v [] = omega arith
number_least v (b ∷ ds) = let h : v ≤ 10 * v + (b - 48) = omega arith in le_trans h (number_least (10 * v + (b - 48)) ds)

number_digit : (v d : ℕ) (ds : List ℕ) → number v ((48 + d) ∷ ds) ≡ number (10 * v + d) ds
unfolding number
number_digit v d ds = let e : 48 + d - 48 ≡ d = omega arith in rw e

module _ (laid : Laid) (s : List ℕ) (p : Spot) (d : ℕ) (q : Spot) (a : AtDigit laid s p d q) where
  run_digit : run digit (view laid s p.at) ≡ (48 + d) ∷ run digit (view laid s q.at)
  run_digit = ap (run digit) a.is ∙ run_more digit (48 + d) (view laid s q.at) (digit_of d a.small)

  past_digit : past digit (view laid s p.at) ≡ past digit (view laid s q.at)
  past_digit = ap (past digit) a.is ∙ past_more digit (48 + d) (view laid s q.at) (digit_of d a.small)

  number_on : (v : ℕ) → number v (run digit (view laid s p.at)) ≡ number (10 * v + d) (run digit (view laid s q.at))
  number_on v = ap (number v) run_digit ∙ number_digit v d (run digit (view laid s q.at))

  number_first : number 0 (run digit (view laid s p.at)) ≡ number d (run digit (view laid s q.at))
  number_first = let e : 10 * 0 + d ≡ d = omega arith in number_on 0 ∙ rw e

-- the loop: the number of the whole is that from here
pub record Counting (laid : Laid) (s : List ℕ) (p₀ : Spot) (v₀ v : ℕ) (p : Spot) : Type 0 where
  pub is : number v₀ (run digit (view laid s p₀.at)) ≡ number v (run digit (view laid s p.at))
  pub rest : past digit (view laid s p₀.at) ≡ past digit (view laid s p.at)
  pub small : v ≤ 4294967295
  pub ready : Ready laid s p
  pub onto : Onto laid s p₀ p

pub count_start : (laid : Laid) (s : List ℕ) (p : Spot) (v : ℕ) → Ready laid s p → v ≤ 9 → Counting laid s p v v p
count_start laid s p v h g = record { is = refl; rest = refl; small = omega arith; ready = h; onto = onto_here laid s p h }

module _ (laid : Laid) (s : List ℕ) (p₀ : Spot) (v₀ v : ℕ) (p : Spot) (c : Counting laid s p₀ v₀ v p) (r : Digit) (h : Digited laid s p r) where
  pub count_end : r ≡ digits.None → Counted laid s p₀ v₀ (numbers.Of v p)
  unfolding number
  count_end e =
      let n = digit_none laid s p r h e in
      record {
        by = record {
          is = c.is ∙ ap (number v) (run_none digit (view laid s p.at) n);
          small = c.small;
          rest = c.rest ∙ past_none digit (view laid s p.at) n;
          onto = c.onto;
        };
      }

  module _ (d : ℕ) (q : Spot) (e : r ≡ digits.Is d q) where
    pub count_more : 10 * v + d ≤ 4294967295 → Counting laid s p₀ v₀ (10 * v + d) q
    count_more l =
        let a = digit_at laid s p r h d q e in
        let b = a.past in
        let o = c.onto in
        record {
          is = c.is ∙ number_on laid s p d q a v;
          rest = c.rest ∙ past_digit laid s p d q a;
          small = l;
          ready = past_ready c.ready b;
          onto = record { up = omega (arith, o.up, b.up); within = b.within; ahead = omega (arith, o.ahead, b.ahead); below = b.below; total = b.total ∙ o.total };
        }

    pub count_large : 4294967295 < 10 * v + d → Counted laid s p₀ v₀ numbers.Fault
    count_large l =
        let a = digit_at laid s p r h d q e in
        let n = number_least (10 * v + d) (run digit (view laid s q.at)) in
        let z = c.is ∙ number_on laid s p d q a v in
        record { by = omega arith }

    pub count_less : length s - q.at < length s - p.at
    count_less = let b = (digit_at laid s p r h d q e).past in omega (arith, b.up, b.within)

    pub count_fits : 10 * v + d < 2 ^ 64
    count_fits = let a = (digit_at laid s p r h d q e).small in let b = c.small in omega arith

pub ruleset counting = (count_start, count_end, count_more, count_large, count_less, count_fits, digit_small)

-- ---- a base number, which begins with no 0

base_none : (s : List ℕ) → run digit s ≡ [] → base_number s ≡ fault
unfolding base_number
base_none s e = rw e

base_zero : (s t : List ℕ) → run digit s ≡ 48 ∷ t → base_number s ≡ fault
unfolding base_number
base_zero s t e = rw e

base_start : (d : ℕ) (t : List ℕ) → (d ≡ 0 → ⊥) → starts (but 48) ((48 + d) ∷ t) ≡ true
base_start d t h = rw (ne_eqb (48 + d) 48 (λ e. h (omega arith)))

base_fine_lem : (s t : List ℕ) (d : ℕ) → run digit s ≡ (48 + d) ∷ t → (d ≡ 0 → ⊥) → number 0 (run digit s) ≤ 4294967295 → base_number s ≡ found (number 0 (run digit s)) (past digit s)
unfolding base_number
base_fine_lem s t d e h l =
    let a : starts (but 48) (run digit s) ≡ true = ap (starts (but 48)) e ∙ base_start d t h in
    rw (a, le-leb (number 0 (run digit s)) 4294967295 l)

base_large : (s t : List ℕ) (d : ℕ) → run digit s ≡ (48 + d) ∷ t → (d ≡ 0 → ⊥) → 4294967295 < number 0 (run digit s) → base_number s ≡ fault
unfolding base_number
base_large s t d e h l =
    let a : starts (but 48) (run digit s) ≡ true = ap (starts (but 48)) e ∙ base_start d t h in
    rw (a, lt-leb (number 0 (run digit s)) 4294967295 l)

module _ (laid : Laid) (s : List ℕ) (p : Spot) (r : Digit) (h : Digited laid s p r) where
  pub number_none : r ≡ digits.None → Numbered laid s p (base_number (view laid s p.at)) numbers.Fault
  number_none e = record { by = base_none (view laid s p.at) (run_none digit (view laid s p.at) (digit_none laid s p r h e)) }

  module _ (d : ℕ) (q : Spot) (e : r ≡ digits.Is d q) where
    pub number_zero : d ≡ 0 → Numbered laid s p (base_number (view laid s p.at)) numbers.Fault
    number_zero f =
        let a = digit_at laid s p r h d q e in
        record { by = base_zero (view laid s p.at) (run digit (view laid s q.at)) (run_digit laid s p d q a ∙ rw f) }

    numbered : (z : Number) → (d ≡ 0 → ⊥) → CountedIs laid s q d z → NumberIs laid s p (base_number (view laid s p.at)) z
    numbered (numbers.Of v w) f g =
        let a = digit_at laid s p r h d q e in
        let n : number 0 (run digit (view laid s p.at)) ≡ v = number_first laid s p d q a ∙ g.is in
        let l = g.small in
        record {
          is =
              base_fine_lem (view laid s p.at) (run digit (view laid s q.at)) d (run_digit laid s p d q a) f (omega arith) ∙
              rw (n, past_digit laid s p d q a, g.rest);
          past = past_onto a.past g.onto;
        }
    numbered numbers.Fault f g =
        let a = digit_at laid s p r h d q e in
        let n = number_first laid s p d q a in
        base_large (view laid s p.at) (run digit (view laid s q.at)) d (run_digit laid s p d q a) f (omega arith)

    pub number_of : (z : Number) → (d ≡ 0 → ⊥) → Counted laid s q d z → Numbered laid s p (base_number (view laid s p.at)) z
    number_of z f g = record { by = numbered z f g.by }

pub ruleset numbering = (number_none, number_zero, number_of, digit_small, digit_ready)
