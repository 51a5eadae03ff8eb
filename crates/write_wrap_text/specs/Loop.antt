-- The writing loops of a text: what each turn leaves to be written.
use Rattle.std.specs.Prelude.{◌≡◌, refl, ℕ, suc, zero, ◌+◌, ◌-◌, ◌≤◌, ◌<◌, Bool, true, false, List, [], ◌∷◌, ◌++◌, ltb, eqb, length, get_or, take, drop, set}
use Rattle.std.proofs.Common.{sym, ◌∙◌, arith, append_assoc, length-append, length-take, length-drop, drop_of_length-le, take_all, lt-ltb, le-ltb, eq-eqb, ne_eqb, eqb-true, ltb-true, ltb-false}
use Rattle.std.proofs.lemmas.Bool.{eqb-false}
use Rattle.spec_format.specs.Bytes.{spaces}
use Rattle.spec_format.specs.Wrap.{line_text, line_rest, fill, closing, lines_after, wrapped}
use Rattle.base_pen.specs.Pen.{Writes, Left, left_start, left_step, left_as, left_end, writes_then}
use Rattle.write_wrap_text.specs.declared.Break.{Break}
use Rattle.write_wrap_text.specs.Line.{Breaks, escape, shown, closed, drop_more, cases, line_is, rest_is, rest_shorter, rest_most}

-- ---- a line's bytes, where quotes are doubled
pub escape_turn : {l m n x : List ℕ} {i j k : ℕ} (q : Bool) (b : List ℕ) (p : ℕ)
    → Left l i x m j (escape q (drop p b)) → p < length b → Writes m j (shown q (get_or b p 0)) n k → Left l i x n k (escape q (drop (p + 1) b))
escape_turn q b p s h w = left_step (left_as (rw (drop_more b p h)) s) w

pub escape_done : {l m x : List ℕ} {i j : ℕ} (q : Bool) (b : List ℕ) (p : ℕ) → Left l i x m j (escape q (drop p b)) → length b ≤ p → Writes l i x m j
escape_done q b p s h = left_end (left_as (rw (drop_of_length-le b h)) s)

-- how long a line becomes
escape_more : (l : List ℕ) (i : ℕ) → i < length l → length (escape true (drop i l)) ≡ length (shown true (get_or l i 0)) + length (escape true (drop (i + 1) l))
escape_more l i h = rw (drop_more l i h) (length-append (shown true (get_or l i 0)) (escape true (drop (i + 1) l)))

pub quoted_turn : (l : List ℕ) (i : ℕ) → i < length l → get_or l i 0 ≡ 34 → length (escape true (drop i l)) ≡ 2 + length (escape true (drop (i + 1) l))
quoted_turn l i h e = rw (eq-eqb (get_or l i 0) 34 e) at (escape_more l i h)

pub other_turn : (l : List ℕ) (i : ℕ) → i < length l → (get_or l i 0 ≡ 34 → ⊥) → length (escape true (drop i l)) ≡ 1 + length (escape true (drop (i + 1) l))
other_turn l i h e = rw (ne_eqb (get_or l i 0) 34 e) at (escape_more l i h)

pub escape_none : (l : List ℕ) (i : ℕ) → length l ≤ i → length (escape true (drop i l)) ≡ 0
escape_none l i h = rw (drop_of_length-le l h)

-- a byte that is stored
pub store_one : {l : List ℕ} {i b : ℕ} → Writes l i (b ∷ []) (set l i b) (i + 1)
store_one {i} = record { fit = λ h. record { is = refl; to = refl }; up = omega arith }

-- a quote goes twice
pub shown_quote : {b : ℕ} → b ≡ 34 → b ∷ [] ++ b ∷ [] ≡ shown true b
shown_quote {b} e = rw (eq-eqb b 34 e, e)

pub shown_other : {b : ℕ} → (b ≡ 34 → ⊥) → b ∷ [] ≡ shown true b
shown_other {b} n = rw (ne_eqb b 34 n)

-- ---- the end of a text
-- the same order is the same test
pub ltb_as : (a b c d : ℕ) → (a < b → c < d) → (b ≤ a → d ≤ c) → ltb a b ≡ ltb c d
ltb_as a b c d f g =
    cases (ltb a b) (λ e. e ∙ sym (lt-ltb c d (f (ltb-true a b e)))) (λ e. e ∙ sym (le-ltb c d (g (ltb-false a b e))))

pub closing_is : (q : Bool) (W indent used : ℕ) → closing q W indent used ≡ closed q (ltb used W) indent
unfolding closing
closing_is false W indent used = refl
closing_is true W indent used = cases (ltb used W) (λ e. rw (e, closing)) (λ e. rw (e, closing))

after_none : (f : ℕ) (q : Bool) (W indent used : ℕ) → lines_after f q W indent used [] ≡ closing q W indent used
unfolding lines_after
after_none zero q W indent used = refl
after_none (suc f) q W indent used = refl

-- ---- the loop over lines
-- the text from a line on, of f further lines at most
abbrev pub lines_from : ℕ → Bool → ℕ → ℕ → ℕ → List ℕ → List ℕ
lines_from f q W indent used t =
    line_text (fill q W used t) ++ lines_after f q W indent (used + length (line_text (fill q W used t))) (line_rest (fill q W used t))

pub record TextLeft (l : List ℕ) (i : ℕ) (whole m : List ℕ) (j : ℕ) (q : Bool) (W indent used : ℕ) (t : List ℕ) : Type 0 where
  pub fuel : ℕ
  pub enough : length (line_rest (fill q W used t)) ≤ fuel
  pub left : Left l i whole m j (lines_from fuel q W indent used t)

pub text_start : (l : List ℕ) (i : ℕ) (q : Bool) (W indent used : ℕ) (t : List ℕ) → TextLeft l i (wrapped q W indent used t) l i q W indent used t
unfolding wrapped
text_start l i q W indent used t = record { fuel = length t; enough = rest_most q W used t; left = left_start }

after_more : (f : ℕ) (q : Bool) (W indent used : ℕ) (t : List ℕ) → 0 < length t
    → lines_after (suc f) q W indent used t ≡ (10 ∷ [] ++ spaces indent) ++ lines_from f q W indent indent t
unfolding lines_after
after_more f q W indent used [] h = absurd (omega arith)
after_more f q W indent used (b ∷ t) h = append_assoc (10 ∷ [] ++ spaces indent) _ _

record More (f : ℕ) (q : Bool) (W indent used : ℕ) (t : List ℕ) : Type 0 where
  less : ℕ
  enough : length (line_rest (fill q W indent t)) ≤ less
  is : lines_after f q W indent used t ≡ (10 ∷ [] ++ spaces indent) ++ lines_from less q W indent indent t

after_step : (f : ℕ) (q : Bool) (W indent used : ℕ) (t : List ℕ) → indent + 2 ≤ W → 0 < length t → length t ≤ f → More f q W indent used t
after_step zero q W indent used t h p e = absurd (omega arith)
after_step (suc f) q W indent used t h p e =
    record { less = f; enough = omega (arith, rest_shorter q W indent t h p); is = after_more f q W indent used t p }

-- the whole rest of a text, as the code lends it
pub rest_all : (t : List ℕ) (n : ℕ) → take (length t - n) (drop n t) ≡ drop n t
rest_all t n = take_all (length t - n) (drop n t) (omega (arith, length-drop n t))

pub rest_empty : {r : Bool} (t : List ℕ) (n : ℕ) → r ≡ eqb (length (take (length t - n) (drop n t))) 0 → r ≡ true → length t ≤ n
rest_empty t n e h = omega (arith, eqb-true (length (take (length t - n) (drop n t))) 0 (sym e ∙ h), length-take (length t - n) (drop n t), length-drop n t)

pub rest_more : {r : Bool} (t : List ℕ) (n : ℕ) → r ≡ eqb (length (take (length t - n) (drop n t))) 0 → r ≡ false → n < length t
rest_more t n e h = omega (arith, eqb-false (length (take (length t - n) (drop n t))) 0 (sym e ∙ h), length-take (length t - n) (drop n t), length-drop n t)

-- a turn
pub text_turn : {l whole m n o : List ℕ} {i j k h : ℕ} {q : Bool} {W indent used : ℕ} {r : Break} (t : List ℕ)
    → TextLeft l i whole m j q W indent used t → indent + 2 ≤ W → Breaks q W used t r → r.next < length t
    → Writes m j (escape q (take r.end t)) n k → Writes n k (10 ∷ [] ++ spaces indent) o h → TextLeft l i whole o h q W indent indent (drop r.next t)
text_turn {q} {W} {indent} {used} {r} t inv w b test p s =
    let next : More inv.fuel q W indent (used + length (line_text (fill q W used t))) (drop r.next t) =
    after_step inv.fuel q W indent _ (drop r.next t) w (omega (arith, length-drop r.next t)) (rw (rest_is b) at inv.enough) in
    record {
      fuel = next.less;
      enough = next.enough;
      left = left_step (rw (rest_is b, next.is) at (left_step inv.left (rw (← (line_is b)) at p))) s;
    }

pub text_done : {l whole m n o : List ℕ} {i j k h : ℕ} {q : Bool} {W indent used : ℕ} {r : Break} {free : Bool} (t : List ℕ)
    → TextLeft l i whole m j q W indent used t → Breaks q W used t r → length t ≤ r.next
    → Writes m j (escape q (take r.end t)) n k → free ≡ ltb (used + (k - j)) W → Writes n k (closed q free indent) o h → Writes l i whole o h
text_done {o} {j} {k} {h} {q} {W} {used} {r} t inv b test p e s =
    let rest : line_rest (fill q W used t) ≡ [] = rest_is b ∙ drop_of_length-le t {i = r.next} test in
    let p' : Writes _ j (line_text (fill q W used t)) _ k = rw (← (line_is b)) at p in
    inv.left.by o h
    (writes_then p' s.up
    (λ z.
    let g : k - j ≡ length (line_text (fill q W used t)) = omega arith in
    rw (rest, after_none, closing_is, ← g, ← e) s))
