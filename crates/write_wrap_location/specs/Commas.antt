-- Lines that break after the last comma: steps of the search, what a turn of the loop leaves, and how long the lines can become.
use Rattle.std.specs.Prelude.{◌≡◌, refl, ℕ, suc, zero, ◌+◌, ◌-◌, ◌*◌, ◌≤◌, ◌<◌, Bool, true, false, List, [], ◌∷◌, ◌++◌, leb, eqb, length, get_or, take, drop, ◌⊎◌}
use Rattle.std.proofs.Common.{sym, ◌∙◌, inl, inr, add-one, get_or-take, length-take-le, arith, length-append, length-take, length-drop, le-leb, eq-eqb, ne_eqb, eqb-true}
use Rattle.std.proofs.lemmas.List.{length-replicate}
use Rattle.std.proofs.lemmas.Bool.{lt-leb, eqb-false}
use Rattle.spec_format.specs.Bytes.{pick, spaces}
use Rattle.spec_format.specs.Wrap.{last_comma, break_at, comma_lines, wrap_location}
use Rattle.base_pen.specs.Pen.{Writes, Left, left_start, left_step, writes_append, writes_as}

-- ---- the search from the right
hit : (n : ℕ) (t : List ℕ) → n < length t → get_or t n 0 ≡ 44 → last_comma (suc n) t ≡ suc n
unfolding last_comma
hit n [] h e = absurd (omega arith)
hit zero (b ∷ t) h e = rw (eq-eqb b 44 e, last_comma)
hit (suc n) (b ∷ t) h e = rw (hit n t (omega arith) e)

miss : (n : ℕ) (t : List ℕ) → n < length t → (get_or t n 0 ≡ 44 → ⊥) → last_comma (suc n) t ≡ last_comma n t
unfolding last_comma
miss n [] h e = absurd (omega arith)
miss zero (b ∷ t) h e = rw (ne_eqb b 44 e, last_comma)
miss (suc n) (b ∷ t) h e = rw (miss n t (omega arith) e)

last_by : (n : ℕ) (comma : Bool) (m : ℕ) → m ≤ n → elim m [ suc k ↦ suc (suc k) | zero ↦ elim comma [ true ↦ 1 | false ↦ 0 ] ] ≤ suc n
last_by n comma (suc k) h = omega arith
last_by n true zero h = omega arith
last_by n false zero h = omega arith

last_most : (n : ℕ) (t : List ℕ) → last_comma n t ≤ n
unfolding last_comma
last_most zero t = omega arith
last_most (suc n) [] = omega arith
last_most (suc n) (b ∷ t) = last_by n (eqb b 44) (last_comma n t) (last_most n t)

-- what a caller of the search learns
pub record Broke (n : ℕ) (t : List ℕ) (r : ℕ) : Type 0 where
  pub is : r ≡ break_at n t
  pub some : 0 < n → 0 < r
  pub most : r ≤ n

-- the last comma from the right
comma_none : (n : ℕ) (t : List ℕ) → n ≤ length t → ((k : ℕ) → k < n → get_or t k 0 ≡ 44 → ⊥) → last_comma n t ≡ 0
unfolding last_comma
comma_none zero t l h = refl
comma_none (suc n) t l h = miss n t l (h n (omega arith)) ∙ comma_none n t (omega arith) (λ k m. h k (omega arith))

comma_some : (n i : ℕ) (t : List ℕ) → n ≤ length t → i < n → get_or t i 0 ≡ 44 → ((k : ℕ) → i < k → k < n → get_or t k 0 ≡ 44 → ⊥) → last_comma n t ≡ suc i
comma_some zero i t l m e h = absurd (omega arith)
comma_some (suc n) i t l m e h = go (eqb i n) refl (λ y. comma_some n i t (omega arith) y e (λ k a b. h k a (omega arith)))
  where
    go : (b : Bool) → eqb i n ≡ b → (i < n → last_comma n t ≡ suc i) → last_comma (suc n) t ≡ suc i
    go true z f = let y : i ≡ n = eqb-true i n z in rw (← y) (hit i t (omega arith) e)
    go false z f = let y : i < n = omega (arith, eqb-false i n z) in miss n t l (h n y (omega arith)) ∙ f y

-- as the code finds it
pub broke_some : (n k : ℕ) (t : List ℕ) → n ≤ length t
    → (k < length (take n t)) × (get_or (take n t) k 0 ≡ 44) × ((j : ℕ) → k < j → j < length (take n t) → get_or (take n t) j 0 ≡ 44 → ⊥) → Broke n t (k + 1)
unfolding break_at
broke_some n k t l h =
    let m : k < n = rw (length-take-le n t l) at h.0 in
    let e : last_comma n t ≡ suc k = comma_some n k t l m (rw (get_or-take n t k 0 m) at h.1) (λ j a b x. h.2 j a (rw (length-take-le n t l) b) (rw (get_or-take n t j 0 b) x)) in
    record { is = rw (add-one k, e, break_at); some = λ z. omega arith; most = omega arith }

pub broke_none : (n : ℕ) (t : List ℕ) → last_comma n t ≡ 0 → Broke n t n
unfolding break_at
broke_none n t e = record { is = rw (e, break_at); some = λ h. h; most = omega arith }

pub broke_bare : (n : ℕ) (t : List ℕ) → n ≤ length t → ((j : ℕ) → j < length (take n t) → get_or (take n t) j 0 ≡ 44 → ⊥) → Broke n t n
broke_bare n t l h = broke_none n t (comma_none n t l (λ j b x. h j (rw (length-take-le n t l) b) (rw (get_or-take n t j 0 b) x)))

-- ---- the loop over lines
-- a line takes a byte where its indent is the usual one
abbrev spare : ℕ → ℕ → ℕ
spare used indent = pick (eqb used indent) 1 0

pub record CommasLeft (l : List ℕ) (i : ℕ) (whole m : List ℕ) (j W indent used : ℕ) (t : List ℕ) : Type 0 where
  pub fuel : ℕ
  pub enough : length t ≤ fuel + spare used indent
  pub none : length t ≡ 0 → fuel ≡ 0
  pub last : fuel ≡ 0 → 0 < length t → used + length t ≤ W
  pub left : Left l i whole m j (comma_lines fuel W indent used t)

pub commas_start : (l : List ℕ) (i W indent used : ℕ) (t : List ℕ) → CommasLeft l i (comma_lines (length t) W indent used t) l i W indent used t
commas_start l i W indent used t = record { fuel = length t; enough = omega arith; none = λ e. e; last = λ e p. absurd (omega arith); left = left_start }

lines_last : (f W indent used : ℕ) (t : List ℕ) → used + length t ≤ W → comma_lines f W indent used t ≡ t ++ 10 ∷ []
unfolding comma_lines
lines_last zero W indent used t h = refl
lines_last (suc f) W indent used t h = rw (le-leb (used + length t) W h, comma_lines)

lines_more : (f W indent used : ℕ) (t : List ℕ) → W < used + length t
    → comma_lines (suc f) W indent used t
    ≡ (take (break_at (W - used) t) t ++ 10 ∷ [] ++ spaces indent) ++ comma_lines f W indent indent (drop (break_at (W - used) t) t)
unfolding comma_lines
lines_more f W indent used t h = rw (lt-leb (used + length t) W h, comma_lines)

-- what a line leaves is short enough
rest_enough : (f n k used indent W : ℕ) (b : Bool) → (b ≡ true → used ≡ indent) → n ≤ suc f + pick b 1 0 → (0 < W - used → 0 < k) → indent + 2 ≤ W → n - k ≤ f + 1
rest_enough f n k used indent W true e h p w = let z : used ≡ indent = e refl in let y : 0 < k = p (omega arith) in omega arith
rest_enough f n k used indent W false e h p w = omega arith

-- a turn
turn : {l whole m n : List ℕ} {i j q : ℕ} (W indent used k : ℕ) (t : List ℕ) (f : ℕ) → length t ≤ f + spare used indent → (f ≡ 0 → used + length t ≤ W)
    → Left l i whole m j (comma_lines f W indent used t) → indent + 2 ≤ W → W < used + length t → Broke (W - used) t k → k < length t
    → Writes m j (take k t ++ 10 ∷ [] ++ spaces indent) n q → CommasLeft l i whole n q W indent indent (drop k t)
turn W indent used k t zero enough last left w h b g p = absurd (omega (arith, last refl))
turn W indent used k t (suc f) enough last left w h b g p =
    let short : length t - k ≤ f + 1 = rest_enough f (length t) k used indent W (eqb used indent) (λ e. eqb-true used indent e) enough b.some w in
    let len : length (drop k t) ≡ length t - k = length-drop k t in
    record {
      fuel = f;
      enough = rw (eq-eqb indent indent refl) (omega arith);
      none = λ z. absurd (omega arith);
      last = λ z y. omega arith;
      left = left_step (rw (lines_more f W indent used t h, ← b.is) at left) p;
    }

pub commas_turn : {l whole m n : List ℕ} {i j q W indent used k a : ℕ} (t : List ℕ) → CommasLeft l i whole m j W indent used t → indent + 2 ≤ W → 0 < length t → W < used + length t
    → a ≡ W - used → Broke a t k → Writes m j (take k t ++ 10 ∷ [] ++ spaces indent) n q → CommasLeft l i whole n q W indent indent (drop k t)
commas_turn {W} {indent} {used} {k} t inv w s h e b p =
    let b' : Broke (W - used) t k = rw e at b in
    turn W indent used k t inv.fuel inv.enough (λ z. inv.last z s) inv.left w h b' (omega (arith, b'.most)) p

pub commas_done : {l whole m n o : List ℕ} {i j q r W indent used : ℕ} (t : List ℕ) → CommasLeft l i whole m j W indent used t → length t ≡ 0 ⊎ (used + length t ≤ W)
    → Writes m j t n q → Writes n q (10 ∷ []) o r → Writes l i whole o r
unfolding comma_lines
commas_done {o} {r} {W} {indent} {used} t inv (inl e) p s = inv.left.by o r (rw (inv.none e) (writes_append p s))
commas_done {o} {r} {W} {indent} {used} t inv (inr h) p s = inv.left.by o r (writes_as (sym (lines_last inv.fuel W indent used t h)) (writes_append p s))

-- ---- lengths: linear in the text's
lines_length : (f W indent used : ℕ) (t : List ℕ) → indent ≤ 21 → length (comma_lines f W indent used t) ≤ length t + 22 * f + 1
unfolding comma_lines
lines_length zero W indent used t h = omega (arith, length-append t (10 ∷ []))
lines_length (suc f) W indent used t h = by (leb (used + length t) W) (lines_length f W indent indent (drop (break_at (W - used) t) t) h)
  where
    by : (b : Bool) → length (comma_lines f W indent indent (drop (break_at (W - used) t) t)) ≤ length (drop (break_at (W - used) t) t) + 22 * f + 1
        → length {A = ℕ} (elim b [
          | true ↦ t ++ 10 ∷ []
          | false ↦ take (break_at (W - used) t) t ++ 10 ∷ [] ++ spaces indent ++ comma_lines f W indent indent (drop (break_at (W - used) t) t)
        ]) ≤ length t + 22 * suc f + 1
    by true ih = omega (arith, length-append t (10 ∷ []))
    by false ih =
        let k = break_at (W - used) t in
        omega (
          arith,
          length-append (take k t ++ 10 ∷ [] ++ spaces indent) (comma_lines f W indent indent (drop k t)),
          length-append (take k t ++ 10 ∷ []) (spaces indent),
          length-append (take k t) (10 ∷ []),
          length-replicate {A = ℕ} indent 32,
          length-take k t,
          length-drop k t,
        )

commas_length : (W indent used : ℕ) (t : List ℕ) → indent ≤ 21 → length (comma_lines (length t) W indent used t) ≤ 23 * length t + 1
commas_length W indent used t h = omega (arith, lines_length (length t) W indent used t h)

pub location_length : (W : ℕ) (first : List ℕ) (indent : ℕ) (t : List ℕ) → indent ≤ 21 → length (wrap_location W first indent t) ≤ length first + 23 * length t + 1
unfolding wrap_location
location_length W first indent t h =
    omega (arith, length-append first (comma_lines (length t) W indent (length first) t), commas_length W indent (length first) t h)
