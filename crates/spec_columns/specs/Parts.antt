-- Columns of a line that is made of parts of known lengths.
use Rattle.std.specs.Prelude.{ℕ, suc, ◌+◌, ◌-◌, ◌≤◌, true, ◌≡◌, List, ◌++◌, length, take, drop}
use Rattle.std.proofs.Common.{arith, sym, ap, ◌∙◌, append-nil, length-append, drop-drop, take_at, drop_at}
use Rattle.std.proofs.lemmas.List.{length-replicate}
use Rattle.spec_format.specs.Bytes.{spaces}
use Rattle.spec_format.specs.Write.{padded, right_aligned}
use Rattle.spec_public.specs.Public.{blank_at, rest_from}
use Rattle.spec_columns.specs.Tests.{same_as}

-- from column a + 1 on the line has y, of n bytes, and then z
pub record Part (line : List ℕ) (a n : ℕ) (y z : List ℕ) : Type 0 where
  pub here : take n (drop a line) ≡ y
  pub next : drop (a + n) line ≡ z

pub part : (line : List ℕ) (a n : ℕ) (y z : List ℕ) → drop a line ≡ y ++ z → length y ≡ n → Part line a n y z
part line a n y z e h = record { here = rw e (take_at y z n h); next = sym (drop-drop n a line) ∙ rw e (drop_at y z n h) }

pub padded_length : (n : ℕ) (w : List ℕ) → length w ≤ n → length (padded n w) ≡ n
padded_length n w h = rw (length-append w (spaces (n - length w)), length-replicate {A = ℕ} (n - length w) 32) (omega arith)

pub right_length : (n : ℕ) (w : List ℕ) → length w ≤ n → length (right_aligned n w) ≡ n
right_length n w h = rw (length-append (spaces (n - length w)) w, length-replicate {A = ℕ} (n - length w) 32) (omega arith)

-- a word that fills its columns
pub full : (n : ℕ) (w : List ℕ) → length w ≡ n → w ≡ padded n w
full n w h = let e : n - length w ≡ 0 = omega arith in rw e (sym (append-nil w))

-- n spaces before the rest of a line
pub blank_start : (b n : ℕ) (rest : List ℕ) → b ≡ n → blank_at 1 b (spaces n ++ rest) ≡ true
blank_start b n rest h =
    let e : suc b - 1 ≡ n = omega arith in
    let f : n ≡ suc b - 1 - 0 = omega arith in
    same_as _ _ (ap (λ (k : ℕ). take k (spaces n ++ rest)) e ∙ (take_at (spaces n) rest n (length-replicate {A = ℕ} n 32) ∙ ap spaces f))

-- what stands after the columns before it
pub rest_start : (a : ℕ) (start rest : List ℕ) → length start ≡ a - 1 → rest_from a rest (start ++ rest) ≡ true
rest_start a start rest h = same_as _ _ (drop_at start rest (a - 1) h)
