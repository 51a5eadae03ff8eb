-- The lines of a text put one by one. Assumes nothing.
use Prim.Native.Nat.{ℕ}
use mathlib.Core.Path.{◌≡◌, refl, sym, ap, ◌∙◌, subst}
use mathlib.Core.Bool.{Bool, true, false}
use mathlib.Core.List.{List, [], ◌∷◌, ◌++◌}
use lib.ListN.{drop}
use Rattle.spec_format.specs.Readers.{Ans, got, no, cut, bind, mapped, line, many0}
use Rattle.spec_format.specs.Header.{line_after, concat_lines, further_line, field_text}
use Rattle.scan_bytes.specs.declared.Line.{Line}
use Rattle.scan_bytes.specs.declared.Line.TheVariants as line'
use Rattle.scan_bytes.specs.Places.{part}
use Rattle.scan_bytes.specs.Views.{Lined}
use Rattle.scan_bytes.specs.Sequence.{line_is}
use Rattle.base_pen.specs.Pen.{Writes, Left, writes_append, writes_as, left_step, left_as, left_end}
use Rattle.read_field_entry.specs.Texts.{further}
use Rattle.read_field_entry.specs.Lines.{further_more, further_stop, further_cut, text_further}
use Rattle.read_field_text.specs.Texts.{text_in, Gets}

pub line_kept : {l m n : List ℕ} {i j k : ℕ} (keep : Bool) (t : List ℕ) → keep ≡ true → Writes l i (10 ∷ []) m j → Writes m j t n k → Writes l i (line_after keep t) n k
line_kept keep t e p q = rw e (writes_append p q)

pub line_plain : {l n : List ℕ} {i k : ℕ} (keep : Bool) (t : List ℕ) → keep ≡ false → Writes l i t n k → Writes l i (line_after keep t) n k
line_plain keep t e p = rw e p

gets_mapped : (o : Ans (List ℕ)) (t : List ℕ) → Gets (mapped (λ m. t ++ m) o) → Gets o
gets_mapped (got x r) t g = tt
gets_mapped no t g = g
gets_mapped cut t g = g

text_mapped : (o : Ans (List ℕ)) (t : List ℕ) → Gets (mapped (λ m. t ++ m) o) → text_in (mapped (λ m. t ++ m) o) ≡ t ++ text_in o
text_mapped (got x r) t g = refl
text_mapped no t g = absurd g
text_mapped cut t g = absurd g

-- what is left to put is what the further lines from here on add, and they are there
pub record Putting (old : List ℕ) (at : ℕ) (whole : List ℕ) (new : List ℕ) (next : ℕ) (rest : Ans (List ℕ)) : Type 0 where
  pub left : Left old at whole new next (text_in rest)
  pub gets : Gets rest

module _ (old : List ℕ) (at : ℕ) (whole new : List ℕ) (next n : ℕ) (keep : Bool) (xs : List ℕ) (now : Putting old at whole new next (further n keep xs)) where
  pub putting_more : (l ys : List ℕ) (m : List ℕ) (k : ℕ) → further_line n xs ≡ got l ys → Writes new next (line_after keep l) m k → Putting old at whole m k (further n keep ys)
  putting_more l ys m k e w =
      let f = further_more n keep xs l ys e in
      let g : Gets (mapped (λ t. line_after keep l ++ t) (further n keep ys)) = subst Gets f now.gets in
      record {
        left = left_step (left_as (ap text_in f ∙ text_mapped (further n keep ys) (line_after keep l) g) now.left) w;
        gets = gets_mapped (further n keep ys) (line_after keep l) g;
      }

  pub putting_stop : further_line n xs ≡ no → Writes old at whole new next
  putting_stop e = left_end (left_as (ap text_in (further_stop n keep xs e)) now.left)

  pub putting_cut : further_line n xs ≡ cut → Writes old at whole new next
  putting_cut e = absurd (subst Gets (further_cut n keep xs e) now.gets)

-- ---- a whole text

module _ (n : ℕ) (keep : Bool) (s : List ℕ) (at : ℕ) (r : Line) (h : Lined s at (line (drop at s)) r) (g : Gets (field_text n keep (drop at s))) where
  pub never_no : r ≡ line'.No → {P : Type 0} → P
  unfolding field_text
  never_no e = let q : line (drop at s) ≡ no = rw (← h.is, e) in absurd (subst (λ (o : Ans (List ℕ)). Gets (bind o (λ first z. bind (many0 (further_line n) z) λ rest z. got (concat_lines keep first rest) z))) q g)

  pub never_cut : r ≡ line'.Cut → {P : Type 0} → P
  unfolding field_text
  never_cut e = let q : line (drop at s) ≡ cut = rw (← h.is, e) in absurd (subst (λ (o : Ans (List ℕ)). Gets (bind o (λ first z. bind (many0 (further_line n) z) λ rest z. got (concat_lines keep first rest) z))) q g)

  module _ (end next : ℕ) (e : r ≡ line'.Got end next) where
    whole : field_text n keep (drop at s) ≡ mapped (λ m. part at end s ++ m) (further n keep (drop next s))
    whole = text_further n keep (drop at s) (part at end s) (drop next s) (line_is h e)

    pub rest_gets : Gets (further n keep (drop next s))
    rest_gets = gets_mapped (further n keep (drop next s)) (part at end s) (subst Gets whole g)

    pub whole_put : {l m o : List ℕ} {i j k : ℕ} → Writes l i (part at end s) m j → Writes m j (text_in (further n keep (drop next s))) o k
        → Writes l i (text_in (field_text n keep (drop at s))) o k
    whole_put p q =
        writes_as (sym (ap text_in whole ∙ text_mapped (further n keep (drop next s)) (part at end s) (subst Gets whole g))) (writes_append p q)
