-- The presentations of a quoted value, as the public document calls them, and that what is written joined is one. That each is read as what it presents: proofs/QuotedBack.antt.
use Prim.Native.Nat.{ℕ, zero, suc, ◌+◌, ◌<◌, ◌≤◌}
use Rattle.std.proofs.Common.{arith, ap, ◌∙◌}
use Rattle.std.specs.Prelude.{Bool, ◌&&◌, ◌||◌, ◌≡◌, leb}
use Rattle.std.proofs.Math.Bool.{true, false}
use Rattle.std.proofs.Math.Path.{refl}
use mathlib.Core.List.{List, [], ◌∷◌, ◌++◌, append_assoc, append-nil}
use Rattle.std.proofs.Math.ListN.{length, length-append}
use Rattle.std.proofs.Math.Dec.{eqb, ltb}
use borrow.Author.Tests.{lt-ltb, leb-true, ne_eqb, not-true}
use Rattle.spec_format.specs.Bytes.{all, visible, but}
use Rattle.spec_format.specs.Wrap.{Line, line_fits, line_over, line_text, line_rest, put, inner, fill, closing, lines_after, wrapped}
use Rattle.spec_public.specs.Public.{doubled, presented_lines, broken_text}
use Rattle.spec_texts_back.specs.Tests.{and_left, and_right, all_head, all_tail, all_left, all_right, all_imp}
use Rattle.spec_texts_back.specs.Pieces.{no_end, visible_no_end}

-- ---- what is written is a presentation

-- x, after the opening quote, presents t
pub record Presents (joined : Bool) (indent : ℕ) (x t : List ℕ) : Type 0 where
  pub first : List ℕ
  pub later : List (List ℕ)
  pub is : x ≡ presented_lines indent first later
  pub text : broken_text joined first later ≡ t
  pub first_fine : all no_end first ≡ true
  pub later_fine : all (all no_end) later ≡ true

-- ---- `translation`: any length, broken where lines are full, and joined by nothing

-- 33 to 126 but the quote
abbrev pub plain : ℕ → Bool
plain b = visible b && but 34 b

record Plain (b : ℕ) : Type 0 where
  quote : eqb b 34 ≡ false
  feed : eqb b 10 ≡ false
  space : eqb b 32 ≡ false

plain_facts : (b : ℕ) → plain b ≡ true → Plain b
plain_facts b h =
    let v : visible b ≡ true = and_left (visible b) (but 34 b) h in
    let l : 33 ≤ b = leb-true 33 b (and_left (leb 33 b) (leb b 126) v) in
    record {
      quote = not-true (eqb b 34) (and_right (visible b) (but 34 b) h);
      feed = ne_eqb b 10 (λ e. omega arith);
      space = ne_eqb b 32 (λ e. omega arith);
    }

plain_no_end : (b : ℕ) → plain b ≡ true → no_end b ≡ true
plain_no_end b h = visible_no_end b (and_left (visible b) (but 34 b) h)

plain_doubled : (l : List ℕ) → all plain l ≡ true → doubled l ≡ l
unfolding doubled
plain_doubled [] h = refl
plain_doubled (b ∷ l) h = let f : Plain b = plain_facts b (all_head plain b l h) in cc (plain_doubled l (all_tail plain b l h))

abbrev parts : Line → List ℕ
parts f = line_text f ++ line_rest f

parts_put : (b : ℕ) (f : Line) → parts (put b f) ≡ b ∷ parts f
parts_put b (line_fits l r) = refl
parts_put b (line_over l r) = refl

rest_put : (b : ℕ) (f : Line) → line_rest (put b f) ≡ line_rest f
rest_put b (line_fits l r) = refl
rest_put b (line_over l r) = refl

module _ (W : ℕ) where
  fill_parts : (used : ℕ) (t : List ℕ) → all plain t ≡ true → parts (fill true W used t) ≡ t
  unfolding fill
  fill_parts used [] h = refl
  fill_parts used (b ∷ t) h = go (plain_facts b (all_head plain b t h)) (fill_parts (suc used) t (all_tail plain b t h)) (ltb used W || inner b) refl
    where
      go : Plain b → parts (fill true W (suc used) t) ≡ t → (x : Bool) → (ltb used W || inner b) ≡ x → parts (fill true W used (b ∷ t)) ≡ b ∷ t
      go f ih true p = cc (parts_put b (fill true W (suc used) t))
      go f ih false p = cc

  -- a line takes a byte at least
  fill_less : (used b : ℕ) (t : List ℕ) → used < W → all plain (b ∷ t) ≡ true → length (line_rest (fill true W used (b ∷ t))) ≤ length t
  unfolding fill
  fill_less used b t w h =
      let f : Plain b = plain_facts b (all_head plain b t h) in
      let room : ltb used W ≡ true = lt-ltb used W w in
      let e : line_rest (fill true W used (b ∷ t)) ≡ line_rest (fill true W (suc used) t) = cc (rest_put b (fill true W (suc used) t)) in
      rw e (omega (arith, simp length-append at (ap length (fill_parts (suc used) t (all_tail plain b t h)))))

  module _ (indent : ℕ) (w : indent < W) where
    -- the closing quote on the line, or on a line of its own
    closing_presents : (used : ℕ) (l : List ℕ) → all plain l ≡ true → Presents true indent (l ++ closing true W indent used) l
    unfolding closing presented_lines broken_text doubled
    closing_presents used l h = go (ltb used W) refl
      where
        go : (x : Bool) → ltb used W ≡ x → Presents true indent (l ++ closing true W indent used) l
        go true p =
            record {
              first = l;
              later = [];
              is = rw (p, closing, plain_doubled l h);
              text = refl;
              first_fine = all_imp plain no_end plain_no_end l h;
              later_fine = refl;
            }
        go false p =
            record {
              first = l;
              later = [] ∷ [];
              is = rw (p, closing, plain_doubled l h) (simp append_assoc);
              text = append-nil (l ++ []) ∙ append-nil l;
              first_fine = all_imp plain no_end plain_no_end l h;
              later_fine = refl;
            }

    -- a line l, and then what is left of the text
    after_presents :
        (n used : ℕ) (l t : List ℕ) → all plain l ≡ true → all plain t ≡ true → length t ≤ n →
        Presents true indent (l ++ lines_after n true W indent used t) (l ++ t)
    unfolding lines_after presented_lines broken_text
    after_presents zero used l [] h k z = rw append-nil (closing_presents used l h)
    after_presents zero used l (b ∷ t) h k z = absurd (omega arith)
    after_presents (suc n) used l [] h k z = rw append-nil (closing_presents used l h)
    after_presents (suc n) used l (b ∷ t) h k z =
        let f : Line = fill true W indent (b ∷ t) in
        let j : parts f ≡ b ∷ t = fill_parts indent (b ∷ t) k in
        let a : all plain (parts f) ≡ true = rw j k in
        let ih =
        after_presents n (indent + length (line_text f)) (line_text f) (line_rest f) (all_left plain (line_text f) (line_rest f) a)
        (all_right plain (line_text f) (line_rest f) a) (omega (arith, fill_less indent b t w k)) in
        record {
          first = l;
          later = ih.first ∷ ih.later;
          is = rw (plain_doubled l h, ← ih.is) (simp append_assoc);
          text = rw (ih.text, j, append-nil l);
          first_fine = all_imp plain no_end plain_no_end l h;
          later_fine = cc (ih.first_fine, ih.later_fine);
        }

    pub wrapped_presents : (used : ℕ) (t : List ℕ) → all plain t ≡ true → Presents true indent (wrapped true W indent used t) t
    unfolding wrapped
    wrapped_presents used t h =
        let f : Line = fill true W used t in
        let j : parts f ≡ t = fill_parts used t h in
        let a : all plain (parts f) ≡ true = rw j h in
        let p =
        after_presents (length t) (used + length (line_text f)) (line_text f) (line_rest f) (all_left plain (line_text f) (line_rest f) a)
        (all_right plain (line_text f) (line_rest f) a) (omega (arith, simp length-append at (ap length j))) in
        rw j at p
