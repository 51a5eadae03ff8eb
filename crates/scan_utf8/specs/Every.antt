-- A test that each byte of a part passes: byte by byte, and piece by piece.
use Rattle.std.specs.Prelude.{ℕ, ◌+◌, ◌≤◌, ◌<◌, ◌≡◌, refl, Bool, true, false, ◌&&◌, List, [], ◌∷◌, ◌++◌, length, get_or}
use Rattle.spec_format.specs.Bytes.{all}
use Rattle.scan_bytes.specs.Places.{part}
use Rattle.scan_bytes.specs.Parts.{part_snoc}

pub all_append : (p : ℕ → Bool) (x y : List ℕ) → all p (x ++ y) ≡ all p x && all p y
all_append p [] y = refl
all_append p (b ∷ x) y = go (p b) (all_append p x y)
  where
    go : (t : Bool) → all p (x ++ y) ≡ all p x && all p y → t && all p (x ++ y) ≡ (t && all p x) && all p y
    go true ih = ih
    go false ih = refl

all_snoc : (p : ℕ → Bool) (t : List ℕ) (b : ℕ) → all p (t ++ (b ∷ [])) ≡ all p t && p b
all_snoc p t b = rw (all_append p t (b ∷ [])) (go (all p t) (p b))
  where
    go : (x y : Bool) → x && (y && true) ≡ x && y
    go true true = refl
    go true false = refl
    go false y = refl

pub all_on : (p : ℕ → Bool) (s : List ℕ) (from i : ℕ) (ok t r : Bool) → from ≤ i → i < length s → ok ≡ all p (part from i s) → t ≡ p (get_or s i 0) → r ≡ ok && t
    → r ≡ all p (part from (i + 1) s)
all_on p s from i ok t r h k w e q = rw (part_snoc s from i h k, all_snoc p (part from i s) (get_or s i 0), ← w, ← e) q
