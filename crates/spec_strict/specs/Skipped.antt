-- What is skipped among the letters is neither a letter nor a slash.
use Rattle.std.specs.Prelude.{ℕ, ◌<◌, Bool, true, false, ◌&&◌, ◌||◌, ◌⊎◌, ◌≡◌, refl, eqb, leb}
use Rattle.std.proofs.Common.{⊎_elim, inl, inr, arith, eqb-true, ne_eqb, leb-true, lit<}
use Rattle.std.proofs.lemmas.Bool.{lt-leb}
use Rattle.spec_format.specs.Bytes.{digit, letter}
use Rattle.spec_format.specs.Impossible.{impossible}
use Rattle.spec_format.specs.Origin.{skipped}

or_cases : (a b : Bool) → (a || b) ≡ true → (a ≡ true) ⊎ (b ≡ true)
or_cases true b h = inl refl
or_cases false b h = inr h

pub and_both : (a b : Bool) → (a && b) ≡ true → (a ≡ true) × (b ≡ true)
and_both true true h = (refl, refl)
and_both true false h = (refl, h)
and_both false b h = (h, impossible cc)

-- below the letters, and not 47
skipped_low : (b : ℕ) → skipped b ≡ true → (b < 58) × (b ≡ 47 → ⊥)
skipped_low b h = ⊎_elim digits others (or_cases (digit b) (eqb b 32 || (eqb b 13 || eqb b 10)) h)
  where
    digits : digit b ≡ true → (b < 58) × (b ≡ 47 → ⊥)
    digits k = let w = and_both (leb 48 b) (leb b 57) k in (omega (arith, leb-true b 57 w.1), λ e. omega (arith, leb-true 48 b w.0))

    at : (n : ℕ) → eqb b n ≡ true → n < 47 → (b < 58) × (b ≡ 47 → ⊥)
    at n k l = let e : b ≡ n = eqb-true b n k in (omega arith, λ f. omega arith)

    ends : (eqb b 13 || eqb b 10) ≡ true → (b < 58) × (b ≡ 47 → ⊥)
    ends k = ⊎_elim (λ m. at 13 m (lit< tt)) (λ m. at 10 m (lit< tt)) (or_cases (eqb b 13) (eqb b 10) k)

    others : (eqb b 32 || (eqb b 13 || eqb b 10)) ≡ true → (b < 58) × (b ≡ 47 → ⊥)
    others k = ⊎_elim (λ m. at 32 m (lit< tt)) ends (or_cases (eqb b 32) (eqb b 13 || eqb b 10) k)

pub skipped_none : (b : ℕ) → skipped b ≡ true → letter b ≡ false
skipped_none b h = let w = skipped_low b h in rw (lt-leb 65 b (omega (arith, w.0)), lt-leb 97 b (omega (arith, w.0)))

pub not_slash_lem : (b : ℕ) → skipped b ≡ true → eqb b 47 ≡ false
not_slash_lem b h = ne_eqb b 47 (skipped_low b h).1
