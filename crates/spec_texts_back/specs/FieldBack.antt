-- The lines of a text, and CONTIG: the lines of an entry are read as the text that they were written from. For a header text proofs/FieldBack.antt proves it.
use Prim.Native.Nat.{ℕ, zero, suc, ◌+◌, ◌-◌}
use Rattle.std.proofs.Common.{ap, ◌∙◌, take-append-drop}
use Rattle.std.specs.Prelude.{Bool, not, ◌≡◌, length, drop, leb}
use Rattle.std.proofs.Math.Bool.{true, false}
use Rattle.std.proofs.Math.Path.{refl}
use mathlib.Core.List.{List, [], ◌∷◌, ◌++◌, append_assoc, append-nil}
use Rattle.std.proofs.Math.ListN.{take}
use Rattle.std.proofs.lemmas.List.{length-replicate}
use Rattle.std.proofs.Math.Dec.{eqb}
use Rattle.std.proofs.lemmas.Bool.{not-true}
use Rattle.spec_format.specs.Bytes.{is, bytes, spaces, starts, all, visible, but}
use Rattle.spec_format.specs.Readers.{got, no, tag, line, many0}
use Rattle.spec_format.specs.Header.{line_after, concat_lines, further_line, field_text, field_bytes}
use Rattle.spec_format.specs.Record.{contig_of, contig}
use Rattle.spec_format.specs.Table.{Contig}
use Rattle.spec_format.specs.Location.{locates, rows_in}
use Rattle.spec_format.specs.Wrap.{break_at, comma_lines, wrap_location}
use Rattle.spec_format.specs.Write.{contig_lines}
use Rattle.spec_loops.specs.Loops.{many0_stop}
use Rattle.spec_loops.proofs.Loops.{many0_more}
use Rattle.spec_loops.proofs.Shrinks.{further_small}
use Rattle.spec_location.specs.Bytes.{locates_visible}
use Rattle.spec_texts_back.specs.Tests.{and_left, and_right, all_head, all_tail, all_left, all_right, all_imp}
use Rattle.spec_texts_back.specs.Pieces.{tag_back, spaces_back, no_end, visible_no_end, visible_but}

-- ---- a text's lines, one byte or one line more

line_push : (b : ℕ) (s l r : List ℕ) → eqb b 10 ≡ false → eqb b 13 ≡ false → line s ≡ got l r → line (b ∷ s) ≡ got (b ∷ l) r
unfolding line
line_push b s l r p q e = cc

line_none : (s : List ℕ) → line (10 ∷ s) ≡ got [] s
unfolding line
line_none s = refl

-- s begins with the lines of the text t, and r is left
pub record Lines (n : ℕ) (keep : Bool) (s t r : List ℕ) : Type 0 where
  pub first : List ℕ
  pub after : List ℕ
  pub further : List (List ℕ)
  pub one : line s ≡ got first after
  pub others : many0 (further_line n) after ≡ got further r
  pub whole : concat_lines keep first further ≡ t

pub joined_line : (keep : Bool) (l : List ℕ) (ls : List (List ℕ)) → concat_lines keep [] (l ∷ ls) ≡ line_after keep (concat_lines keep l ls)
joined_line true l ls = refl
joined_line false l ls = refl

module _ (n : ℕ) (keep : Bool) where
  text_is : (s t r : List ℕ) → Lines n keep s t r → field_text n keep s ≡ got t r
  unfolding field_text
  text_is s t r h = rw (h.one, h.others, h.whole)

  pub text_end : (rest : List ℕ) → tag (spaces n) rest ≡ no → Lines n keep (10 ∷ rest) [] rest
  text_end rest e =
      record { first = []; after = rest; further = []; one = line_none rest; others = many0_stop (further_line n) rest (rw e); whole = refl }

  pub text_push : (b : ℕ) (s t r : List ℕ) → eqb b 10 ≡ false → eqb b 13 ≡ false → Lines n keep s t r → Lines n keep (b ∷ s) (b ∷ t) r
  text_push b s t r p q h =
      record {
        first = b ∷ h.first;
        after = h.after;
        further = h.further;
        one = line_push b s h.first h.after p q h.one;
        others = h.others;
        whole = ap (λ (x : List ℕ). b ∷ x) h.whole;
      }

  further_line_lem : (x l r : List ℕ) → line x ≡ got l r → further_line n (spaces n ++ x) ≡ got l r
  further_line_lem x l r e = rw (tag_back (spaces n) x) e

  pub text_line : (x t r : List ℕ) → Lines n keep x t r → Lines n keep (10 ∷ spaces n ++ x) (line_after keep t) r
  text_line x t r h =
      record {
        first = [];
        after = spaces n ++ x;
        further = h.first ∷ h.further;
        one = line_none (spaces n ++ x);
        others =
            rw
            (many0_more (further_line n) (further_small n) (spaces n ++ x) h.first h.after (further_line_lem x h.first h.after h.one), h.others);
        whole = joined_line keep h.first h.further ∙ ap (line_after keep) h.whole;
      }

  pub text_pass : (l x t r : List ℕ) → all no_end l ≡ true → Lines n keep x t r → Lines n keep (l ++ x) (l ++ t) r
  text_pass [] x t r h e = e
  text_pass (b ∷ l) x t r h e =
      let k : no_end b ≡ true = all_head no_end b l h in
      text_push b (l ++ x) (l ++ t) r (not-true (eqb b 10) (and_left (not (eqb b 10)) _ k)) (not-true (eqb b 13) (and_right (not (eqb b 10)) _ k))
      (text_pass l x t r (all_tail no_end b l h) e)

-- ---- header texts

-- the word, the gap, and the text from its first byte on
pub bytes_steps :
    (indent g : ℕ) (word x t r : List ℕ) (keep : Bool) → indent + suc g + length word ≡ 12 → starts (but 32) x ≡ true → Lines 12 keep x t r →
    field_bytes indent word keep (spaces indent ++ (word ++ (spaces (suc g) ++ x))) ≡ got t r
unfolding field_bytes
bytes_steps indent g word x t r keep e s l =
    let f : indent + length (spaces (suc g)) + length word ≡ 12 = rw (length-replicate {A = ℕ} (suc g) 32) e in
    rw (tag_back (spaces indent) (word ++ (spaces (suc g) ++ x)), tag_back word (spaces (suc g) ++ x), spaces_back g x s, f) (text_is 12 keep x t r l)

-- ---- CONTIG

regroup_line : (u i c r : List ℕ) → (u ++ 10 ∷ [] ++ i ++ c) ++ r ≡ u ++ (10 ∷ (i ++ (c ++ r)))
regroup_line u i c r = simp append_assoc

module _ (W indent n used : ℕ) (t rest : List ℕ) where
  pub commas_short : leb (used + length t) W ≡ true → comma_lines (suc n) W indent used t ++ rest ≡ t ++ 10 ∷ rest
  unfolding comma_lines
  commas_short p = let e : comma_lines (suc n) W indent used t ≡ t ++ 10 ∷ [] = cc in rw (e, append_assoc)

  pub commas_long :
      leb (used + length t) W ≡ false →
      comma_lines (suc n) W indent used t ++ rest ≡
      take (break_at (W - used) t) t ++ (10 ∷ (spaces indent ++ (comma_lines n W indent indent (drop (break_at (W - used) t) t) ++ rest)))
  unfolding comma_lines
  commas_long p =
      let k : ℕ = break_at (W - used) t in
      let e : comma_lines (suc n) W indent used t ≡ take k t ++ 10 ∷ [] ++ spaces indent ++ comma_lines n W indent indent (drop k t) = rw (p, comma_lines) in
      rw e (regroup_line (take k t) (spaces indent) (comma_lines n W indent indent (drop k t)) rest)

commas_none : (W indent used : ℕ) (t rest : List ℕ) → comma_lines 0 W indent used t ++ rest ≡ t ++ 10 ∷ rest
unfolding comma_lines
commas_none W indent used t rest = append_assoc t (10 ∷ []) rest

pub line_starts : (u x : List ℕ) → all visible u ≡ true → starts (but 32) (u ++ 10 ∷ x) ≡ true
line_starts [] x h = refl
line_starts (b ∷ u) x h = visible_but b (all_head visible b u h)

pub all_take : (p : ℕ → Bool) (k : ℕ) (t : List ℕ) → all p t ≡ true → all p (take k t) ≡ true
all_take p k t h = all_left p (take k t) (drop k t) (rw (take-append-drop k t) h)

pub all_drop : (p : ℕ → Bool) (k : ℕ) (t : List ℕ) → all p t ≡ true → all p (drop k t) ≡ true
all_drop p k t h = all_right p (take k t) (drop k t) (rw (take-append-drop k t) h)

commas_starts : (W n used : ℕ) (t rest : List ℕ) → all visible t ≡ true → starts (but 32) (comma_lines n W 12 used t ++ rest) ≡ true
commas_starts W zero used t rest h = rw (commas_none W 12 used t rest) (line_starts t rest h)
commas_starts W (suc n) used t rest h = go (leb (used + length t) W) refl
  where
    go : (x : Bool) → leb (used + length t) W ≡ x → starts (but 32) (comma_lines (suc n) W 12 used t ++ rest) ≡ true
    go true p = rw (commas_short W 12 n used t rest p) (line_starts t rest h)
    go false p =
        let k : ℕ = break_at (W - used) t in
        rw (commas_long W 12 n used t rest p)
        (line_starts (take k t) (spaces 12 ++ (comma_lines n W 12 12 (drop k t) ++ rest)) (all_take visible k t h))

contig_steps : (s t r : List ℕ) → field_bytes 0 (bytes "CONTIG") false s ≡ got t r → locates true t ≡ true → contig s ≡ got (contig_of t) r
contig_steps s t r e h = rw (e, h)

module _ (W : ℕ) (rest : List ℕ) (stops : tag (spaces 12) rest ≡ no) where
  line_alone : (t : List ℕ) → all visible t ≡ true → Lines 12 false (t ++ 10 ∷ rest) t rest
  line_alone t h =
      rw append-nil at (text_pass 12 false t (10 ∷ rest) [] rest (all_imp visible no_end visible_no_end t h) (text_end 12 false rest stops))

  commas_back : (n used : ℕ) (t : List ℕ) → all visible t ≡ true → Lines 12 false (comma_lines n W 12 used t ++ rest) t rest
  commas_back zero used t h = rw (commas_none W 12 used t rest) (line_alone t h)
  commas_back (suc n) used t h = go (λ r. commas_back n 12 r) (leb (used + length t) W) refl
    where
      go :
          ((r : List ℕ) → all visible r ≡ true → Lines 12 false (comma_lines n W 12 12 r ++ rest) r rest) → (x : Bool) → leb (used + length t) W ≡ x →
          Lines 12 false (comma_lines (suc n) W 12 used t ++ rest) t rest
      go ih true p = rw (commas_short W 12 n used t rest p) (line_alone t h)
      go ih false p =
          let k : ℕ = break_at (W - used) t in
          let l = ih (drop k t) (all_drop visible k t h) in
          rw (commas_long W 12 n used t rest p)
          (rw (take-append-drop k t) at
          (text_pass 12 false (take k t) (10 ∷ (spaces 12 ++ (comma_lines n W 12 12 (drop k t) ++ rest))) (drop k t) rest
          (all_imp visible no_end visible_no_end (take k t) (all_take visible k t h))
          (text_line 12 false (comma_lines n W 12 12 (drop k t) ++ rest) (drop k t) rest l)))

  -- CONTIG is read as it was written, with the rows of its text
  pub contig_back : (c : Contig) → locates true c.text ≡ true → c.rows ≡ rows_in true c.text → contig (contig_lines W (is c) ++ rest) ≡ got c rest
  unfolding wrap_location
  contig_back c h e =
      let t : List ℕ = c.text in
      let v : all visible t ≡ true = locates_visible true t h in
      let x : List ℕ = comma_lines (length t) W 12 12 t ++ rest in
      let o : contig_of t ≡ c = rw e in
      rw o at
      (contig_steps (bytes "CONTIG      " ++ x) t rest
      (bytes_steps 0 5 (bytes "CONTIG") x t rest false refl (commas_starts W (length t) 12 t rest v) (commas_back (length t) 12 t v)) h)
