-- The ways out of the functions, each as its test leaves it.
use Rattle.std.specs.Prelude.{Option, Some, None}
use Prim.Native.Nat.{ℕ, zero, suc, ◌+◌, ◌-◌, ◌≤◌, ◌<◌, ◌^◌}
use mathlib.Core.Path.{◌≡◌, refl, sym, ap, ◌∙◌}
use mathlib.Core.Bool.{Bool, true, false, ◌&&◌, not}
use mathlib.Core.List.{List, [], ◌∷◌, ◌++◌, append-nil}
use native.Mathlib.Omega.{arith}
use lib.ListN.{length, get_or, drop_of_length-le, get_or-eq_default}
use lib.Dec.{eqb}
use borrow.Author.Tests.{lt-ltb, le-ltb, le-leb, lt-leb}
use Rattle.spec_format.specs.declared.SourceText.{SourceText}
use Rattle.spec_format.specs.declared.ContigText.{ContigText}
use Rattle.spec_format.specs.declared.Span.{Span}
use Rattle.spec_format.specs.declared.Date.{Date}
use Rattle.spec_format.specs.declared.Head.{Head}
use Rattle.base_pen.specs.Pen.{Writes, writes_append, wrote_eq}
use Rattle.spec_contracts.specs.Numbers.{largest, text_numbers, source_numbers, contig_numbers, length_numbers, date_numbers, above, lower, text_from, source_from, contig_from}
use Rattle.spec_contracts.specs.Numbers.{length_from, on_date, date_from, text_in, span_in, source_in, contig_in, date_in, head_in, outside, head_from}

pub above_less : (n : ℕ) → n < largest → n + 1 ≡ above n
above_less n h = rw (lt-ltb n largest h)

pub above_largest : (n : ℕ) → largest ≤ n → n ≡ above n
above_largest n h = rw (le-ltb n largest h)

pub lower_high : (top n : ℕ) → top < n → top ≡ lower top n
lower_high top n h = rw (lt-ltb top n h)

pub lower_low : (top n : ℕ) → n ≤ top → n ≡ lower top n
lower_low top n h = rw (le-ltb top n h)

pub number_past : (ns : List ℕ) (i : ℕ) → length ns ≤ i → 0 ≡ get_or ns i 0
number_past ns i h = sym (get_or-eq_default ns 0 h)

suc_less : (n : ℕ) → suc n - 1 ≡ n
suc_less n = omega arith

pub text_there : (start n : ℕ) → (n ≡ 0 → ⊥) → Some (record { start = start; length = n - 1 }) ≡ text_from start n
text_there start zero h = absurd (h refl)
text_there start (suc n) h = rw (suc_less n)

pub source_there : (start n : ℕ) (o : Option Span) → (n ≡ 0 → ⊥) → Some (record { text = record { start = start; length = n - 1 }; organism = o }) ≡ source_from start n o
source_there start zero o h = absurd (h refl)
source_there start (suc n) o h = rw (suc_less n)

pub contig_there : (start n row rows : ℕ) → (n ≡ 0 → ⊥) → Some (record { text = record { start = start; length = n - 1 }; row = row; rows = rows }) ≡ contig_from start n row rows
contig_there start zero row rows h = absurd (h refl)
contig_there start (suc n) row rows h = rw (suc_less n)

pub length_there : (n : ℕ) → (n ≡ 0 → ⊥) → Some (n - 1) ≡ length_from n
length_there zero h = absurd (h refl)
length_there (suc n) h = rw (suc_less n)

module _ (d m y : ℕ) (a b : Bool) (e : a ≡ (eqb m 0 && eqb y 0)) (f : b ≡ (eqb d 0 && a)) where
  pub date_none : b ≡ true → None ≡ date_from d m y
  date_none t = rw (← e, ← f, t)

  pub date_there : b ≡ false → (r : Option Date) → r ≡ on_date d m y → r ≡ date_from d m y
  date_there t r g = rw (← e, ← f, t) g

module _ (ns : List ℕ) (h : Head) where
  pub too_few : length ns < 33 → h ≡ outside → h ≡ head_from ns
  unfolding head_from
  too_few l e = rw (lt-leb 33 (length ns) l) e

  pub too_long : 33 ≤ length ns → 4294967296 < get_or ns 2 0 → h ≡ outside → h ≡ head_from ns
  unfolding head_from
  too_long l m e = rw (le-leb 33 (length ns) l, lt-leb (get_or ns 2 0) 4294967296 m) e

  pub enough : 33 ≤ length ns → get_or ns 2 0 ≤ 4294967296 → h ≡ head_in ns → h ≡ head_from ns
  unfolding head_from
  enough l m e = rw (le-leb 33 (length ns) l, le-leb (get_or ns 2 0) 4294967296 m) e

-- a head made of what was found
module _ (ns : List ℕ) (length : Option ℕ) (name molecule definition accession version dblink keywords : Option Span) (division : Span) (date : Option Date)
    (source : Option SourceText) (contig : Option ContigText) (flag references comments features letters : ℕ) where
  pub head_is : length ≡ length_from (get_or ns 2 0) → name ≡ text_in ns 0 → molecule ≡ text_in ns 3 → flag ≡ get_or ns 5 0 → division ≡ span_in ns 6
      → date ≡ date_in ns 8 → definition ≡ text_in ns 11 → accession ≡ text_in ns 13 → version ≡ text_in ns 15 → dblink ≡ text_in ns 17
      → keywords ≡ text_in ns 19 → source ≡ source_in ns 21 → references ≡ get_or ns 25 0 → comments ≡ get_or ns 26 0 → features ≡ get_or ns 27 0
      → contig ≡ contig_in ns 28 → letters ≡ get_or ns 32 0
      → record {
        name = name;
        length = length;
        molecule = molecule;
        circular = not (eqb flag 0);
        division = division;
        date = date;
        definition = definition;
        accession = accession;
        version = version;
        dblink = dblink;
        keywords = keywords;
        source = source;
        references = references;
        comments = comments;
        features = features;
        contig = contig;
        letters = letters;
      } ≡ head_in ns
  unfolding head_in
  head_is e₁ e₂ e₃ e₄ e₅ e₆ e₇ e₈ e₉ f₁ f₂ f₃ f₄ f₅ f₆ f₇ f₈ =
      rw (e₁, e₂, e₃, e₄, e₅, e₆, e₇, e₈, e₉, f₁, f₂, f₃, f₄, f₅, f₆, f₇, f₈)

-- as many numbers as an array has, put from its start, are what it then holds
pub filled : (old text new : List ℕ) (k : ℕ) → length text ≡ length old → length old < 2 ^ 64 → Writes old 0 text new k → new ≡ text
filled old text new k e h w =
    let past : length old ≤ 0 + length text = omega (arith, e) in
    wrote_eq (w.fit (omega (arith, e))) (omega (arith, e)) ∙ ap (λ (rest : List ℕ). text ++ rest) (drop_of_length-le old past) ∙ append-nil text

-- what was put, by which value it is
module _ (l n : List ℕ) (i k : ℕ) where
  pub text_none : (t : Option Span) → t ≡ None → Writes l i (0 ∷ 0 ∷ []) n k → Writes l i (text_numbers t) n k
  text_none t e w = rw e w

  pub text_some : (t : Option Span) (s : Span) (p : ℕ) → t ≡ Some s → p ≡ above s.length → Writes l i (s.start ∷ p ∷ []) n k → Writes l i (text_numbers t) n k
  text_some t s p e f w = rw e (rw f at w)

  pub source_none : (t : Option SourceText) → t ≡ None → Writes l i (0 ∷ 0 ∷ 0 ∷ 0 ∷ []) n k → Writes l i (source_numbers t) n k
  source_none t e w = rw e w

  pub source_some : (t : Option SourceText) (s : Span) (o : Option Span) (p : ℕ) (m : List ℕ) (j : ℕ) → t ≡ Some (record { text = s; organism = o }) → p ≡ above s.length
      → Writes l i (s.start ∷ p ∷ []) m j → Writes m j (text_numbers o) n k → Writes l i (source_numbers t) n k
  source_some t s o p m j e f w v = rw e (writes_append (rw f at w) v)

  pub contig_none : (t : Option ContigText) → t ≡ None → Writes l i (0 ∷ 0 ∷ 0 ∷ 0 ∷ []) n k → Writes l i (contig_numbers t) n k
  contig_none t e w = rw e w

  pub contig_some : (t : Option ContigText) (s : Span) (row rows p : ℕ) → t ≡ Some (record { text = s; row = row; rows = rows }) → p ≡ above s.length
      → Writes l i (s.start ∷ p ∷ row ∷ rows ∷ []) n k → Writes l i (contig_numbers t) n k
  contig_some t s row rows p e f w = rw e (rw f at w)

  pub length_none : (t : Option ℕ) → t ≡ None → Writes l i (0 ∷ []) n k → Writes l i (length_numbers t) n k
  length_none t e w = rw e w

  pub length_some : (t : Option ℕ) (b : ℕ) → t ≡ Some b → Writes l i ((b + 1) ∷ []) n k → Writes l i (length_numbers t) n k
  length_some t b e w = rw e w

  pub dated_none : (t : Option Date) → t ≡ None → Writes l i (0 ∷ 0 ∷ 0 ∷ []) n k → Writes l i (date_numbers t) n k
  dated_none t e w = rw e w

  pub dated_some : (t : Option Date) (d : Date) → t ≡ Some d → Writes l i (d.day ∷ d.month ∷ d.year ∷ []) n k → Writes l i (date_numbers t) n k
  dated_some t d e w = rw e w

pub ruleset ways = (
  above_less,
  above_largest,
  lower_high,
  lower_low,
  number_past,
  text_there,
  source_there,
  contig_there,
  length_there,
  date_none,
  date_there,
  too_few,
  too_long,
  enough,
  text_none,
  text_some,
  source_none,
  source_some,
  contig_none,
  contig_some,
  length_none,
  length_some,
  dated_none,
  dated_some,
)
