-- The texts of a head, from the places where they stand in the slice.
use Rattle.std.specs.Prelude.{ℕ, ◌≤◌, true, List, [], ◌++◌, length, drop, Option, Some, None}
use Rattle.spec_format.specs.Bytes.{bytes}
use Rattle.spec_format.specs.declared.Span.{Span}
use Rattle.spec_format.specs.Header.{field_text}
use Rattle.read_locus_tokens.specs.Parts.{spanned}
use Rattle.read_locus.specs.declared.LocusPlan.{LocusPlan}
use Rattle.read_locus.specs.declared.LocusPlan.TheVariants as plan
use Rattle.read_locus.specs.Plans.{PlanEnds}
use Rattle.read_field_entry.specs.declared.Entry.{Entry}
use Rattle.read_field_text.specs.Texts.{text_in, Gets}
use Rattle.read_field_optional.specs.declared.MayEntry.{MayEntry}
use Rattle.read_field_optional.specs.declared.MayEntry.TheVariants as may
use Rattle.read_field_all.specs.declared.MaySource.{MaySource}
use Rattle.read_field_all.specs.declared.MaySource.TheVariants as source
use Rattle.read_field_all.specs.declared.Header.{Header}

abbrev pub text_of : List ℕ → Option Span → List ℕ
text_of s None = []
text_of s (Some x) = spanned s x

-- name, molecule type and division; UNK where the line was not understood
abbrev pub locus_text : List ℕ → LocusPlan → List ℕ
locus_text s plan.Unknown = bytes "UNK"
locus_text s (plan.Known name n molecule circular division date) = spanned s name ++ text_of s molecule ++ spanned s division

abbrev pub entry_text : List ℕ → Entry → List ℕ
entry_text s e = text_in (field_text e.columns true (drop e.text s))

abbrev pub may_text : List ℕ → MayEntry → List ℕ
may_text s may.Absent = []
may_text s (may.Is e) = entry_text s e

abbrev pub header_text : List ℕ → Header → List ℕ
header_text s h = may_text s h.definition ++ may_text s h.accession ++ may_text s h.version ++ may_text s h.dblink ++ may_text s h.keywords

abbrev pub source_text : List ℕ → MaySource → List ℕ
source_text s source.Absent = []
source_text s (source.Is text organism) = entry_text s text ++ may_text s organism

abbrev pub head_text : List ℕ → LocusPlan → Header → List ℕ
head_text s locus h = locus_text s locus ++ header_text s h ++ source_text s h.source

-- ---- the texts are there

abbrev pub EntryGets : List ℕ → Entry → Type 0
EntryGets s e = (e.text ≤ length s) × Gets (field_text e.columns true (drop e.text s))

abbrev pub MayGets : List ℕ → MayEntry → Type 0
MayGets s may.Absent = Unit
MayGets s (may.Is e) = EntryGets s e

abbrev pub SourceGets : List ℕ → MaySource → Type 0
SourceGets s source.Absent = Unit
SourceGets s (source.Is text organism) = EntryGets s text × MayGets s organism

pub record HeaderGets (s : List ℕ) (h : Header) : Type 0 where
  pub definition : MayGets s h.definition
  pub accession : MayGets s h.accession
  pub version : MayGets s h.version
  pub dblink : MayGets s h.dblink
  pub keywords : MayGets s h.keywords

pub record HeadGets (s : List ℕ) (locus : LocusPlan) (h : Header) : Type 0 where
  pub plan : PlanEnds (length s) locus
  pub header : HeaderGets s h
  pub source : SourceGets s h.source
