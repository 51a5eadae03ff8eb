-- What holds of every letter with a code is a test of each number below 123, which the checker computes.
use Rattle.std.specs.Prelude.{ℕ, zero, suc, ◌-◌, ◌<◌, ◌≤◌, Bool, true, false, cond, ◌&&◌, List, [], ◌∷◌, ◌≡◌, refl, T, eqb, ltb}
use Prim.Native.Char.{code}
use Prim.Native.String as S
use Prim.Native.String.{String}
use Rattle.std.proofs.Common.{sym, subst, ◌∙◌, not-suc-le-zero, arith, eqb-true, ltb-true, ltb-false, le-leb, ne_eqb}
use Rattle.std.proofs.lemmas.Bool.{eqb-false}
use Rattle.spec_bases.specs.Bases.{set_among, capitals, sets, set_of, coded}
use Rattle.spec_bases.specs.Tests.{below, implied}

-- ---- a test at every number below a bound

left : (a b : Bool) → T (a && b) → T a
left true b t = tt
left false b t = t

right : (a b : Bool) → T (a && b) → T b
right true b t = t
right false b t = absurd t

pub at_each : (n : ℕ) (f : ℕ → Bool) → T (below n f) → (k : ℕ) → k < n → T (f k)
at_each zero f t k h = absurd (not-suc-le-zero h)
at_each (suc n) f t k h = go (λ (l : k < n). at_each n f (right (f n) (below n f) t) k l) (eqb k n) refl
  where
    go : (k < n → T (f k)) → (x : Bool) → eqb k n ≡ x → T (f k)
    go ih true e = subst (λ (m : ℕ). T (f m)) (sym (eqb-true k n e)) (left (f n) (below n f) t)
    go ih false e = let d = eqb-false k n e in ih (omega arith)

-- ---- past z there is no code

abbrev low : String → Bool
low S.[] = true
low (S.◌∷◌ c s) = ltb (code c) 91 && low s

none_among : (s : String) (sets : List ℕ) (b : ℕ) → T (low s) → 91 ≤ b → set_among s sets b ≡ 0
none_among S.[] sets b t h = refl
none_among (S.◌∷◌ c s) [] b t h = refl
none_among (S.◌∷◌ c s) (m ∷ sets) b t h = go (none_among s sets b (right (ltb (code c) 91) (low s) t) h) (ltb (code c) 91) refl (left (ltb (code c) 91) (low s) t)
  where
    go : set_among s sets b ≡ 0 → (x : Bool) → ltb (code c) 91 ≡ x → T x → cond (eqb b (code c)) m (set_among s sets b) ≡ 0
    go ih true e y = let l = ltb-true (code c) 91 e in rw (ne_eqb b (code c) (λ (k : b ≡ code c). omega arith)) ih
    go ih false e y = absurd y

none_past : (b : ℕ) → 123 ≤ b → set_of b ≡ 0
unfolding set_of
none_past b h = rw (le-leb 97 b (omega arith)) (none_among capitals sets (b - 32) tt (omega arith))

-- a test that every letter with a code passes
pub of_coded : (f : ℕ → Bool) → T (below 123 (λ x. implied (coded x) (f x))) → (b : ℕ) → coded b ≡ true → T (f b)
of_coded f t b c = go (ltb b 123) refl (coded b) refl
  where
    go : (x : Bool) → ltb b 123 ≡ x → (y : Bool) → coded b ≡ y → T (f b)
    go true e true d = subst (λ (y : Bool). T (implied y (f b))) d (at_each 123 (λ x. implied (coded x) (f x)) t b (ltb-true b 123 e))
    go true e false d = absurd (subst T (sym c ∙ d) tt)
    go false e y d = let z : coded b ≡ false = rw (none_past b (ltb-false b 123 e)) in absurd (subst T (sym c ∙ z) tt)
