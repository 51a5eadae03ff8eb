-- The loop that reads a number.
use Prim.Native.Nat.{ℕ, ◌+◌, ◌-◌, ◌*◌, ◌≤◌, ◌<◌, ◌^◌}
use mathlib.Core.Path.{◌≡◌, sym, ◌∙◌}
use mathlib.Core.List.{List, ◌∷◌}
use native.Mathlib.Numerals.{add-one}
use native.Mathlib.Nat.{pow-suc, pow-le-pow_right}
use native.Mathlib.Omega.{arith}
use borrow.Author.Tests.{le-leb, lt-leb}
use lib.Dec.{lit<}
use lib.ListN.{length, get_or, drop, drop_of_length-le}
use lib.Seq.{drop-cons}
use Rattle.spec_format.specs.Bytes.{number}
use Rattle.read_locus_tokens.specs.Parts.{digits_after}
use Rattle.read_locus_tokens.specs.declared.Decimal.{Decimal}
use Rattle.read_locus_tokens.specs.declared.Decimal.TheVariants as decimal

pub drop_more : (s : List ℕ) (i : ℕ) → i < length s → drop i s ≡ get_or s i 0 ∷ drop (i + 1) s
drop_more s i h = rw (add-one, drop-cons s i 0)

-- a digit more: the number grows by one digit
module _ (t : List ℕ) (i v : ℕ) where
  pub digit_go : (o : Decimal) → o ≡ digits_after v (drop i t) → i < length t → 48 ≤ get_or t i 0 → get_or t i 0 ≤ 57 → o ≡ digits_after (10 * v + (get_or t i 0 - 48)) (drop (i + 1) t)
  unfolding number
  digit_go o inv h a b = inv ∙ rw (drop_more t i h, number, le-leb _ _ a, le-leb _ _ b)

  pub digit_low : (o : Decimal) → o ≡ digits_after v (drop i t) → i < length t → get_or t i 0 < 48 → decimal.Not ≡ o
  digit_low o inv h a = sym (inv ∙ rw (drop_more t i h, lt-leb _ _ a))

  pub digit_high : (o : Decimal) → o ≡ digits_after v (drop i t) → i < length t → 48 ≤ get_or t i 0 → 57 < get_or t i 0 → decimal.Not ≡ o
  digit_high o inv h a b = sym (inv ∙ rw (drop_more t i h, le-leb _ _ a, lt-leb _ _ b))

  pub digit_done : (o : Decimal) → o ≡ digits_after v (drop i t) → length t ≤ i → decimal.Value v ≡ o
  unfolding number
  digit_done o inv h = sym (inv ∙ rw (drop_of_length-le t h))

-- a number of i digits, at most nine, is small enough for one more
pub ten_more : (i v b : ℕ) → v < 10 ^ i → b ≤ 57 → 10 * v + (b - 48) < 10 ^ (i + 1)
ten_more i v b h k = rw (add-one, pow-suc 10 i) (omega arith)

pub ten_billion : (i v : ℕ) → v < 10 ^ i → i < 10 → v < 1000000000
ten_billion i v h k = let p : 10 ^ i ≤ 10 ^ 9 = pow-le-pow_right (lit< tt) {i = i} {j = 9} (omega arith) in omega (arith, p)

pub ruleset deciding = (digit_go, digit_low, digit_high, digit_done)
