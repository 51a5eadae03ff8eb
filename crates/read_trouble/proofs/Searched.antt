-- Where the search for LOCUS succeeds, it stops there; so where a record is not read for what stands after its sections, no location before that is too deep.
use Prim.Native.Nat.{ℕ, zero, suc}
use mathlib.Core.Bool.{Bool, true, false}
use mathlib.Core.Path.{◌≡◌, refl, sym, ◌∙◌}
use mathlib.Core.List.{List}
use lib.ListN.{length}
use Rattle.spec_format.specs.Bytes.{bytes, pick}
use Rattle.spec_format.specs.Readers.{Ans, got, no, cut, mapped, utf8_of, line, tag, Turn, more, stop, end_up_to, end, while_fits}
use Rattle.spec_format.specs.Table.{Locus}
use Rattle.spec_format.specs.Locus.{skipping, preamble_turn, preamble, locus}
use Rattle.spec_format.specs.Header.{Field, header_field}
use Rattle.spec_format.specs.Record.{Outcome, was_read, not_read, deep_in, middle, after_header, once, header, after_locus, after_preamble, read_record}
use Rattle.spec_format.specs.Impossible.{impossible}
use Rattle.spec_format.specs.declared.Unread.{Unread}
use Rattle.spec_format.specs.declared.Unread.TheVariants as unread
use Rattle.spec_lines.specs.Troubles.{stopped_up_to, stopped, searched, header_begins, header_ends}

-- a loop that stops where it stands
module _ {A : Type 0} (turn : List ℕ → Ans (Turn A)) (here : (s r : List ℕ) → turn s ≡ got stop r → r ≡ s) where
  ended_stopped : (n : ℕ) (s : List ℕ) (u : Unit) (r : List ℕ) → end_up_to turn n s ≡ got u r → stopped_up_to turn n s ≡ r
  unfolding end_up_to stopped_up_to
  ended_stopped zero s u r h = impossible cc
  ended_stopped (suc n) s u r h = go (λ z. ended_stopped n z) (turn s) refl
    where
      go : ((z : List ℕ) (u : Unit) (r : List ℕ) → end_up_to turn n z ≡ got u r → stopped_up_to turn n z ≡ r) → (o : Ans (Turn A)) → turn s ≡ o → stopped_up_to turn (suc n) s ≡ r
      go ih (got (more a) z) e = rw (stopped_up_to, e) (ih z u r (rw (end_up_to, e) at h))
      go ih (got stop z) e =
          let f : end_up_to turn (suc n) s ≡ got tt z = rw (end_up_to, e) in
          let g : z ≡ r = cc in rw (stopped_up_to, e) (sym (here s z e) ∙ g)
      go ih no e = let f : end_up_to turn (suc n) s ≡ no = rw (end_up_to, e) in impossible cc
      go ih cut e = let f : end_up_to turn (suc n) s ≡ cut = rw (end_up_to, e) in impossible cc

  end_stopped : (s : List ℕ) (u : Unit) (r : List ℕ) → end turn s ≡ got u r → stopped turn s ≡ r
  unfolding end stopped
  end_stopped s u r h = ended_stopped (suc (length s)) s u r h

preamble_here : (s r : List ℕ) → preamble_turn s ≡ got stop r → r ≡ s
preamble_here s r h = go (tag (bytes "LOCUS") s) h
  where
    lined : (o : Ans (List ℕ)) → mapped more o ≡ got stop r → r ≡ s
    lined (got t z) e = impossible cc
    lined no e = impossible cc
    lined cut e = impossible cc

    go : (o : Ans Unit) → skipping s o ≡ got stop r → r ≡ s
    go (got u z) e = cc
    go no e = lined (utf8_of (line s)) e
    go cut e = lined (utf8_of (line s)) e

pub found : (s : List ℕ) (u : Unit) (r : List ℕ) → preamble s ≡ got u r → searched s ≡ r
unfolding preamble
found s u r e = end_stopped preamble_turn preamble_here s u r e

-- a trouble that is met after the sections
abbrev pub late : Outcome → Bool
late (was_read t r) = false
late (not_read unread.AtEnd) = false
late (not_read unread.Unended) = false
late (not_read unread.BadPlace) = false
late (not_read unread.NoLocus) = false
late (not_read unread.TwoDefinitions) = false
late (not_read unread.NoSlashes) = true
late (not_read unread.OtherLength) = true
late (not_read unread.BadLetter) = true
late (not_read unread.TooDeep) = false
late (not_read unread.StrayLetter) = false

early : (b : Bool) (o : Outcome) → late (pick b (pick true (not_read unread.TooDeep) o) (not_read unread.TwoDefinitions)) ≡ false
early true o = refl
early false o = refl

-- 14 goes ahead of what stands after the sections
deep_first : (s : List ℕ) → deep_in (header_ends s) ≡ true → late (read_record s) ≡ false
unfolding read_record header_begins header_ends
deep_first s h = begin (preamble s) refl
  where
    fields : (l : Locus) (q : List ℕ) → header_begins s ≡ q → (o : Ans (List Field)) → while_fits header_field q ≡ o → late (header l q o) ≡ false
    fields l q b (got fs z) e =
        let k : header_ends s ≡ z = rw (header_ends, b, e) in
        let d : deep_in z ≡ true = rw k at h in
        rw d (early (once fs) (after_header l fs (middle z)))
    fields l q b no e = refl
    fields l q b cut e = refl

    line_of : (r : List ℕ) → searched s ≡ r → (o : Ans Locus) → locus r ≡ o → late (after_locus o) ≡ false
    line_of r b (got l q) e = fields l q (rw (header_begins, b, e)) (while_fits header_field q) refl
    line_of r b no e = refl
    line_of r b cut e = refl

    begin : (o : Ans Unit) → preamble s ≡ o → late (after_preamble o) ≡ false
    begin (got u r) e = line_of r (found s u r e) (locus r) refl
    begin no e = refl
    begin cut e = refl

pub not_deep : (s : List ℕ) (why : Unread) → late (not_read why) ≡ true → read_record s ≡ not_read why → deep_in (header_ends s) ≡ false
not_deep s why l e = go (deep_in (header_ends s)) refl
  where
    go : (b : Bool) → deep_in (header_ends s) ≡ b → deep_in (header_ends s) ≡ false
    go true d = let k : late (read_record s) ≡ false = deep_first s d in let m : late (read_record s) ≡ true = rw e l in impossible cc
    go false d = d
