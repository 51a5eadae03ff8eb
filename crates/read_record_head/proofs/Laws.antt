-- Texts that may be absent, by cases; and the places of a head's texts. Assumes nothing.
use Rattle.std.specs.Prelude.{Option, Some, None}
use Prim.Native.Nat.{ℕ, ◌+◌, ◌-◌, ◌<◌, ◌^◌}
use mathlib.Core.Path.{◌≡◌, refl}
use mathlib.Core.List.{List}
use native.Mathlib.Omega.{arith}
use lib.ListN.{length, take, drop}
use Rattle.spec_format.specs.Bytes.{bytes}
use Rattle.spec_format.specs.declared.ContigText.{ContigText}
use Rattle.spec_format.specs.declared.Span.{Span}
use Rattle.spec_format.specs.declared.SourceText.{SourceText}
use Rattle.read_locus_tokens.specs.Parts.{spanned}
use Rattle.read_locus.specs.declared.LocusPlan.{LocusPlan}
use Rattle.read_locus.specs.declared.LocusPlan.TheVariants as plan
use Rattle.read_field_entry.specs.declared.Entry.{Entry}
use Rattle.read_field_optional.specs.declared.MayEntry.{MayEntry}
use Rattle.read_field_optional.specs.declared.MayEntry.TheVariants as may
use Rattle.read_field_optional.specs.Fields.{may_length}
use Rattle.read_field_all.specs.declared.MaySource.{MaySource}
use Rattle.read_field_all.specs.declared.MaySource.TheVariants as found
use Rattle.read_field_all.specs.declared.Header.{Header}
use Rattle.base_pen.specs.Pen.{Writes, writes_nil, writes_append}
use Rattle.read_record_head.specs.declared.LocusHead.{LocusHead}
use Rattle.read_record_head.specs.declared.HeaderTexts.{HeaderTexts}
use Rattle.read_record_head.specs.Texts.{text_of, locus_text, entry_text, may_text, source_text}
use Rattle.read_record_head.specs.Places.{text_from, locus_bytes, header_bytes, source_bytes, head_bytes, locus_head, entry_at, header_texts, source_at, head_in}

-- ---- texts that are put

pub span_put :
    (s l m : List ℕ) (x : Span) (p q : ℕ) → Writes l p (take (x.start + x.length - x.start) (drop x.start s)) m q → Writes l p (spanned s x) m q
span_put s l m x p q w = let e : x.start + x.length - x.start ≡ x.length = omega arith in rw e at w

module _ (s l : List ℕ) (p : ℕ) where
  pub text_none : (x : Option Span) → x ≡ None → Writes l p (text_of s x) l p
  text_none x e = rw e writes_nil

  pub text_put : (x : Option Span) (y : Span) (m : List ℕ) (q : ℕ) → x ≡ Some y → Writes l p (spanned s y) m q → Writes l p (text_of s x) m q
  text_put x y m q e w = rw e w

  pub may_none : (x : MayEntry) → x ≡ may.Absent → Writes l p (may_text s x) l p
  may_none x e = rw e writes_nil

  pub may_put : (x : MayEntry) (y : Entry) (m : List ℕ) (q : ℕ) → x ≡ may.Is y → Writes l p (entry_text s y) m q → Writes l p (may_text s x) m q
  may_put x y m q e w = rw e w

  pub source_none : (x : MaySource) → x ≡ found.Absent → Writes l p (source_text s x) l p
  source_none x e = rw e writes_nil

  pub source_put :
      (x : MaySource) (y : Entry) (z : MayEntry) (m n : List ℕ) (q r : ℕ) → x ≡ found.Is y z → Writes l p (entry_text s y) m q → Writes m q (may_text s z) n r →
      Writes l p (source_text s x) n r
  source_put x y z m n q r e v w = rw e (writes_append v w)

  pub unknown_put : (x : LocusPlan) (m : List ℕ) (q : ℕ) → x ≡ plan.Unknown → Writes l p (bytes "UNK") m q → Writes l p (locus_text s x) m q
  unknown_put x m q e w = rw e w

pub ruleset putting = (span_put, text_none, text_put, may_none, may_put, source_none, source_put, unknown_put)

-- ---- where they lie

pub from_at : (place : ℕ) (x : Option Span) (y : Span) → x ≡ Some y → Some (record { start = place; length = y.length }) ≡ text_from place x
from_at place x y e = rw e

pub entry_is : (place : ℕ) (x : MayEntry) (y : Entry) → x ≡ may.Is y → Some (record { start = place; length = y.length }) ≡ entry_at place x
entry_is place x y e = rw e

module _ (x : MaySource) (y : Entry) (z : MayEntry) (e : x ≡ found.Is y z) where
  pub source_small : (place : ℕ) → place + source_bytes x < 2 ^ 64 → place + y.length < 2 ^ 64
  source_small place h = let k : place + (y.length + may_length z) < 2 ^ 64 = rw e at h in omega arith

  pub source_is : (place : ℕ) (t : Option Span) → t ≡ entry_at (place + y.length) z → Some (record { text = record { start = place; length = y.length }; organism = t }) ≡ source_at place x
  source_is place t k = rw (e, k)

  pub length_small : (n : ℕ) → n ≡ may_length z → source_bytes x < 2 ^ 64 → y.length + n < 2 ^ 64
  length_small n k h = let l : y.length + may_length z < 2 ^ 64 = rw e at h in omega arith

  pub length_is : (n : ℕ) → n ≡ may_length z → y.length + n ≡ source_bytes x
  length_is n k = rw (e, k)

pub ruleset placing = (from_at, entry_is, source_small, source_is, length_small, length_is)

-- ---- the head

locus_next : (x : LocusPlan) → (locus_head x).next ≡ locus_bytes x
locus_next plan.Unknown = refl
locus_next (plan.Known name n molecule circular division date) = refl

module _ (x : LocusPlan) (h : Header) (a : LocusHead) (e : a ≡ locus_head x) where
  before : a.next ≡ locus_bytes x
  before = rw e (locus_next x)

  pub header_small : head_bytes x h < 2 ^ 64 → a.next + header_bytes h < 2 ^ 64
  header_small k = omega (arith, before)

  module _ (t : HeaderTexts) (f : t ≡ header_texts a.next h) where
    after : t.next ≡ locus_bytes x + header_bytes h
    after = let g : t.next ≡ (header_texts a.next h).next = rw f in omega (arith, before, g)

    pub source_after : head_bytes x h < 2 ^ 64 → t.next + source_bytes h.source < 2 ^ 64
    source_after k = omega (arith, after)

    pub sum_small : (n : ℕ) → n ≡ source_bytes h.source → head_bytes x h < 2 ^ 64 → t.next + n < 2 ^ 64
    sum_small n k l = omega (arith, after)

    pub sum_is : (n : ℕ) → n ≡ source_bytes h.source → t.next + n ≡ head_bytes x h
    sum_is n k = omega (arith, after)

    pub head_is :
        (features : ℕ) (contig : Option ContigText) (letters : ℕ) (y : Option SourceText) → y ≡ source_at t.next h.source →
        record {
          name = a.name;
          length = a.length;
          molecule = a.molecule;
          circular = a.circular;
          division = a.division;
          date = a.date;
          definition = t.definition;
          accession = t.accession;
          version = t.version;
          dblink = t.dblink;
          keywords = t.keywords;
          source = y;
          references = h.references;
          comments = h.comments;
          features = features;
          contig = contig;
          letters = letters;
        }
        ≡ head_in x h features contig letters
    unfolding head_in
    head_is features contig letters y p = rw (p, f, e)

pub ruleset heading = (header_small, source_after, sum_small, sum_is, head_is)
