-- Letters that stand for one base alone or for all.
use Rattle.std.specs.Prelude.{ℕ, Bool, true, false, not, ◌||◌, ◌≡◌, refl, eqb}
use Rattle.std.proofs.Common.{eqb-true}
use Rattle.spec_bases.specs.Bases.{set_of, coded}
use Rattle.spec_format.specs.Impossible.{impossible}

-- a set of one base, or of all four
abbrev pub one_or_all : ℕ → Bool
one_or_all m = eqb m 1 || (eqb m 2 || (eqb m 4 || (eqb m 8 || eqb m 15)))

abbrev pub common : ℕ → Bool
common b = one_or_all (set_of b)

-- such a letter has a code
not_none : (m : ℕ) → one_or_all m ≡ true → not (eqb m 0) ≡ true
not_none m h = go (eqb m 0) refl
  where
    go : (x : Bool) → eqb m 0 ≡ x → not x ≡ true
    go false e = refl
    go true e = let k : one_or_all 0 ≡ true = rw (eqb-true m 0 e) at h in impossible cc

pub common_coded : (b : ℕ) → common b ≡ true → coded b ≡ true
common_coded b h = not_none (set_of b) h
