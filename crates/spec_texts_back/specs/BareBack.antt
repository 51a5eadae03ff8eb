-- A location or a bare value, written and read.
use Prim.Native.Nat.{ℕ, zero, suc, ◌+◌, ◌-◌, ◌<◌, ◌≤◌}
use Rattle.std.proofs.Common.{arith}
use Rattle.std.specs.Prelude.{Bool, ◌≡◌, eqb}
use Rattle.std.proofs.Math.Bool.{true, false}
use Rattle.std.proofs.Math.Path.{refl}
use mathlib.Core.List.{List, [], ◌∷◌, ◌++◌}
use Rattle.std.proofs.Math.ListN.{length}
use Rattle.std.proofs.Math.Dec.{leb}
use Rattle.std.proofs.lemmas.Bool.{not-true}
use Rattle.spec_format.specs.Bytes.{spaces, starts, all, concat, but}
use Rattle.spec_format.specs.Readers.{got, line}
use Rattle.spec_format.specs.Features.{not_slash, bare_more, bare}
use Rattle.spec_format.specs.Wrap.{last_comma, break_at, comma_lines}
use Rattle.spec_loops.proofs.Shrinks.{bare_more_small}
use Rattle.spec_texts_back.specs.Pieces.{tag_back, no_end, line_back}
use Rattle.spec_texts_back.specs.Joins.{joining, joining_more, joining_parts}

-- what may follow a value or a location: not n spaces and another byte than `/`, and enough of it to say so
abbrev pub ends : ℕ → List ℕ → Bool
ends n [] = false
ends zero (b ∷ s) = eqb b 47
ends (suc n) (b ∷ s) = elim (eqb b 32) [ true ↦ ends n s | false ↦ true ]

starts_peek : (s : List ℕ) → starts (but 47) s ≡ true → not_slash s ≡ got tt s
starts_peek [] h = cc
starts_peek (b ∷ s) h = cc (not-true (eqb b 47) h)

-- where a location is broken
comma_le : (n : ℕ) (t : List ℕ) → last_comma n t ≤ n
unfolding last_comma
comma_le zero t = omega arith
comma_le (suc n) [] = omega arith
comma_le (suc n) (b ∷ t) = go (comma_le n t) (last_comma n t) refl (eqb b 44) refl
  where
    go : last_comma n t ≤ n → (k : ℕ) → last_comma n t ≡ k → (x : Bool) → eqb b 44 ≡ x → last_comma (suc n) (b ∷ t) ≤ suc n
    go ih zero e true p = let v : last_comma (suc n) (b ∷ t) ≡ 1 = cc in omega arith
    go ih zero e false p = let v : last_comma (suc n) (b ∷ t) ≡ 0 = cc in omega arith
    go ih (suc k) e x p = let v : last_comma (suc n) (b ∷ t) ≡ suc (suc k) = cc in omega arith

pub record Break (n : ℕ) (t : List ℕ) : Type 0 where
  pub over : 0 < break_at n t
  pub under : break_at n t ≤ n

pub breaks : (n : ℕ) (t : List ℕ) → 0 < n → Break n t
unfolding break_at
breaks n t h = go (last_comma n t) refl
  where
    go : (k : ℕ) → last_comma n t ≡ k → Break n t
    go zero e = let v : break_at n t ≡ n = cc in record { over = omega arith; under = omega arith }
    go (suc k) e = let v : break_at n t ≡ suc k = cc in record { over = omega arith; under = omega (arith, comma_le n t) }

module _ (indent : ℕ) where
  further_on :
      (x l z t r : List ℕ) → starts (but 47) x ≡ true → line x ≡ got l z → joining (bare_more indent) z ≡ got t r →
      joining (bare_more indent) (spaces indent ++ x) ≡ got (l ++ t) r
  further_on x l z t r h e k =
      joining_more (bare_more indent) (bare_more_small indent) (spaces indent ++ x) l z t r (rw (tag_back (spaces indent) x, starts_peek x h, e)) k

  bare_lines : (s l z t r : List ℕ) → line s ≡ got l z → joining (bare_more indent) z ≡ got t r → bare indent s ≡ got (l ++ t) r
  unfolding bare
  bare_lines s l z t r e k = rw e (joining_parts (bare_more indent) l z t r (λ m. l ++ concat m) (λ m. refl) k)

-- s is read as t, over one or more lines, and then rest stands
pub record Lines (indent : ℕ) (s t rest : List ℕ) : Type 0 where
  pub first : List ℕ
  pub left : List ℕ
  pub later : List ℕ
  pub begins : line s ≡ got first left
  pub goes : joining (bare_more indent) left ≡ got later rest
  pub text : first ++ later ≡ t

module _ (indent : ℕ) (rest : List ℕ) where
  pub lines_bare : (s t : List ℕ) → Lines indent s t rest → bare indent s ≡ got t rest
  lines_bare s t h = rw h.text at (bare_lines indent s h.first h.left h.later rest h.begins h.goes)

  pub lines_more :
      (f r x : List ℕ) → all no_end f ≡ true → starts (but 47) x ≡ true → Lines indent x r rest → Lines indent (f ++ (10 ∷ (spaces indent ++ x))) (f ++ r) rest
  lines_more f r x k s h =
      record {
        first = f;
        left = spaces indent ++ x;
        later = r;
        begins = line_back f (spaces indent ++ x) k;
        goes = rw h.text at (further_on indent x h.first h.left h.later rest s h.begins h.goes);
        text = refl;
      }

module _ (W indent : ℕ) where
  -- it begins as the text does
  pub commas_starts :
      (p : ℕ → Bool) (n used : ℕ) (t rest : List ℕ) → used < W → starts p t ≡ true → starts p (comma_lines n W indent used t ++ rest) ≡ true
  unfolding comma_lines
  commas_starts p n used [] rest l h = cc
  commas_starts p zero used (c ∷ t) rest l h = h
  commas_starts p (suc n) used (c ∷ t) rest l h = go (leb (used + length (c ∷ t)) W) refl (break_at (W - used) (c ∷ t)) refl
    where
      go :
          (x : Bool) → leb (used + length (c ∷ t)) W ≡ x → (k : ℕ) → break_at (W - used) (c ∷ t) ≡ k →
          starts p (comma_lines (suc n) W indent used (c ∷ t) ++ rest) ≡ true
      go true e k f = cc
      go false e zero f = absurd (omega (arith, breaks (W - used) (c ∷ t) (omega arith)))
      go false e (suc k) f = cc
