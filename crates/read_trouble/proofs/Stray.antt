-- Where a stray letter is refused, it is what ends the letters that are taken; and without the switch these end where all letters do.
use Prim.Native.Nat.{ℕ}
use mathlib.Core.Bool.{Bool, true, false}
use mathlib.Core.Path.{◌≡◌, refl, sym, ap, ◌∙◌}
use mathlib.Core.List.{List}
use Rattle.spec_format.specs.Bytes.{absent, is, letter, starts}
use Rattle.spec_format.specs.Readers.{Ans, got, no, cut, bind, while_fits}
use Rattle.spec_format.specs.Table.{Locus}
use Rattle.spec_format.specs.Locus.{preamble, locus}
use Rattle.spec_format.specs.Header.{Field, header_field}
use Rattle.spec_format.specs.Origin.{Letters, at_slash, at_end, bad_byte, letters, origin_tag}
use Rattle.spec_format.specs.Record.{left_by, Middle, middle, deep_in, once}
use Rattle.spec_format.specs.Strict.{stray, letters_below, letters_after, letters_from, stray_after, stray_in}
use Rattle.spec_format.specs.Impossible.{impossible}
use Rattle.spec_lines.specs.Troubles.{letters_end, after_tag, searched, header_begins, header_ends, sections_end}
use Rattle.read_letters.specs.Runs.{letters_by}
use Rattle.read_letters.specs.Switch.{BadBy, Says, says, off_alike}
use Rattle.read_trouble.specs.Found.{after_tag_by, sections_end_by}
use Rattle.read_trouble.proofs.Searched.{found}

-- ---- without the switch

tag_off : (s : List ℕ) (o : Ans (List ℕ)) → after_tag_by false s o ≡ after_tag s o
tag_off s (got u r) = ap letters_end (off_alike r)
tag_off s no = refl
tag_off s cut = refl

pub sections_off : (s : List ℕ) → sections_end_by false s ≡ sections_end s
unfolding sections_end sections_end_by
sections_off s = tag_off (left_by s (middle s)) (origin_tag (left_by s (middle s)))

-- ---- with it

ends_stray : (s z : List ℕ) → stray s ≡ is z → letters_end (letters_by true s) ≡ z
ends_stray s z e = go (letters_by true s) (says true s)
  where
    bad_stray : (r : List ℕ) (x : Bool) → BadBy x true s r → r ≡ z
    bad_stray r true h = let k : is r ≡ is z = sym h.1 ∙ e in cc
    bad_stray r false h = let k : absent ≡ is z = sym h.1 ∙ e in impossible cc

    go : (x : Letters) → Says true s x → letters_end x ≡ z
    go (at_slash l r) h = let k : absent ≡ is z = sym h.1 ∙ e in impossible cc
    go (at_end l) h = let k : absent ≡ is z = sym h.1 ∙ e in impossible cc
    go (bad_byte r) h = bad_stray r (starts letter r) h

-- the place of a stray letter, by the steps of the search for it
pub record StrayEnds (s z : List ℕ) : Type 0 where
  pub shallow : deep_in (header_ends s) ≡ false
  pub ends : sections_end_by true (header_ends s) ≡ z

pub stray_ends : (s z : List ℕ) → stray_in s ≡ is z → StrayEnds s z
unfolding letters_from header_begins header_ends sections_end_by
stray_ends s z h = begin (preamble s) refl
  where
    -- `q` is where the header ends
    tagged : (q r : List ℕ) (o : Ans (List ℕ)) → origin_tag r ≡ o → stray_after o ≡ is z → left_by q (middle q) ≡ r → sections_end_by true q ≡ z
    tagged q r (got u t) e k m = rw (sections_end_by, m, e) (ends_stray t z k)
    tagged q r no e k m = impossible cc
    tagged q r cut e k m = impossible cc

    middled : (q : List ℕ) (o : Ans Middle) → middle q ≡ o → stray_after (bind o (λ _ s. origin_tag s)) ≡ is z → sections_end_by true q ≡ z
    middled q (got m r) e k = tagged q r (origin_tag r) refl k (rw e)
    middled q no e k = impossible cc
    middled q cut e k = impossible cc

    shallowed : (q : List ℕ) → header_ends s ≡ q → (b : Bool) → deep_in q ≡ b → stray_after (letters_below q) ≡ is z → StrayEnds s z
    shallowed q f true d k = let m : stray_after (letters_below q) ≡ absent = rw d in impossible cc
    shallowed q f false d k =
        record { shallow = rw (f, d); ends = rw f (middled q (middle q) refl (rw d at k)) }

    fields : (q : List ℕ) → header_ends s ≡ q → (b : Bool) (fs : List Field) → once fs ≡ b → stray_after (letters_after fs q) ≡ is z → StrayEnds s z
    fields q f true fs o k = shallowed q f (deep_in q) refl (rw o at k)
    fields q f false fs o k = let m : stray_after (letters_after fs q) ≡ absent = rw o in impossible cc

    headed : (q : List ℕ) → header_begins s ≡ q → (o : Ans (List Field)) → while_fits header_field q ≡ o → stray_after (bind o letters_after) ≡ is z → StrayEnds s z
    headed q f (got fs r) e k = fields r (rw (header_ends, f, e)) (once fs) fs refl k
    headed q f no e k = impossible cc
    headed q f cut e k = impossible cc

    line_of : (r : List ℕ) → searched s ≡ r → (o : Ans Locus) → locus r ≡ o → stray_after (bind o λ _ s. bind (while_fits header_field s) letters_after) ≡ is z → StrayEnds s z
    line_of r f (got l q) e k = headed q (rw (header_begins, f, e)) (while_fits header_field q) refl k
    line_of r f no e k = impossible cc
    line_of r f cut e k = impossible cc

    begin : (o : Ans Unit) → preamble s ≡ o → StrayEnds s z
    begin (got u r) e = line_of r (found s u r e) (locus r) refl (rw (letters_from, e) at h)
    begin no e = let k : stray_in s ≡ absent = rw (letters_from, e) in impossible cc
    begin cut e = let k : stray_in s ≡ absent = rw (letters_from, e) in impossible cc
