-- The parts of the table that a plan stands for, and how small they are.
use Rattle.std.specs.Prelude.{ℕ, suc, ◌+◌, ◌*◌, ◌≤◌, ◌≡◌, refl, Bool, true, false, List, [], ◌∷◌, length, drop, eqb, Option, Some, None}
use Rattle.std.proofs.Common.{arith, length-append, length-take, length-drop}
use Rattle.spec_format.specs.Bytes.{May, absent, is, bytes, each, letter}
use Rattle.spec_format.specs.Table.{Locus, Source, Table}
use Rattle.spec_format.specs.Header.{Field, latest, every, text_in, source_in, reference_in}
use Rattle.spec_format.specs.Origin.{skipped}
use Rattle.spec_format.specs.Record.{table_from}
use Rattle.spec_format.specs.Rooms.{perhaps, piece_text, pieces_text, source_of, organism_of, head_pieces, reference_pieces, comment_pieces, texts_of, feature_text, qualifier_count, location_count, contig_text, contig_rows}
use Rattle.spec_format.specs.declared.Span.{Span}
use Rattle.read_letters.specs.Runs.{sifted}
use Rattle.read_locus.specs.declared.LocusPlan.{LocusPlan}
use Rattle.read_locus.specs.declared.LocusPlan.TheVariants as locus
use Rattle.read_locus.specs.Plans.{planned}
use Rattle.read_locus_tokens.specs.Parts.{spanned}
use Rattle.read_field_optional.specs.declared.MayEntry.{MayEntry}
use Rattle.read_field_optional.specs.declared.MayEntry.TheVariants as may
use Rattle.read_field_optional.specs.Fields.{MayStand, may_length}
use Rattle.read_field_all.specs.declared.MaySource.{MaySource}
use Rattle.read_field_all.specs.declared.MaySource.TheVariants as source
use Rattle.read_field_all.specs.Gathered.{fields_at, SourceStands}
use Rattle.read_feature_table.specs.Reads.{features_in}
use Rattle.read_contig.specs.Contigs.{contig_in, contig_as}
use Rattle.read_record_plan.specs.declared.Plan.{Plan}
use Rattle.read_record_plan.specs.Plans.{table_with, plan_table, PlanStands}

-- ---- what each part is

pub record TableParts (s : List ℕ) (p : Plan) : Type 0 where
  pub locus : (plan_table s p).locus ≡ planned s p.locus
  pub definition : (plan_table s p).definition ≡ latest (text_in (bytes "DEFINITION")) (fields_at (drop p.header_at s))
  pub accession : (plan_table s p).accession ≡ latest (text_in (bytes "ACCESSION")) (fields_at (drop p.header_at s))
  pub version : (plan_table s p).version ≡ latest (text_in (bytes "VERSION")) (fields_at (drop p.header_at s))
  pub dblink : (plan_table s p).dblink ≡ latest (text_in (bytes "DBLINK")) (fields_at (drop p.header_at s))
  pub keywords : (plan_table s p).keywords ≡ latest (text_in (bytes "KEYWORDS")) (fields_at (drop p.header_at s))
  pub source : (plan_table s p).source ≡ latest source_in (fields_at (drop p.header_at s))
  pub references : (plan_table s p).references ≡ every reference_in (fields_at (drop p.header_at s))
  pub comments : (plan_table s p).comments ≡ every (text_in (bytes "COMMENT")) (fields_at (drop p.header_at s))
  pub features : (plan_table s p).features ≡ features_in (drop p.rest.features_at s)
  pub contig : (plan_table s p).contig ≡ contig_as (contig_in s p.rest.contig)
  pub letters : (plan_table s p).letters ≡ sifted (drop p.rest.letters_at s)

pub table_parts : (s : List ℕ) (p : Plan) → TableParts s p
unfolding table_with table_from
table_parts s p =
    record {
      locus = refl;
      definition = refl;
      accession = refl;
      version = refl;
      dblink = refl;
      keywords = refl;
      source = refl;
      references = refl;
      comments = refl;
      features = refl;
      contig = refl;
      letters = refl;
    }

-- ---- no part is longer than the slice, but for `UNK`

-- the length of a text that may be absent
abbrev may_long : May (List ℕ) → ℕ
may_long m = length (piece_text (perhaps m))

may_small : (s : List ℕ) (at : ℕ) (keep : Bool) (t : May (List ℕ)) (e : MayEntry) → MayStand s at keep t e → may_long t ≤ length s
may_small s at keep absent e h = omega arith
may_small s at keep (is t) may.Absent h = absurd h
may_small s at keep (is t) (may.Is e) h = omega (arith, h.sized, h.small, h.within)

entry_small : (s : List ℕ) (at : ℕ) (keep : Bool) (t : May (List ℕ)) (e : MayEntry) → MayStand s at keep t e → may_length e ≤ length s
entry_small s at keep t may.Absent h = omega arith
entry_small s at keep absent (may.Is e) h = absurd h
entry_small s at keep (is t) (may.Is e) h = omega (arith, h.sized, h.small, h.within)

-- a text with its rows is that text
pub as_text : (m : May (List ℕ)) → contig_text (contig_as m) ≡ m
as_text absent = refl
as_text (is t) = refl

source_small : (s : List ℕ) (at : ℕ) (t : May Source) (e : MaySource) → SourceStands s at t e → (may_long (source_of t) ≤ length s) × (may_long (organism_of t) ≤ length s)
source_small s at absent e h = (omega arith, omega arith)
source_small s at (is t) source.Absent h = absurd h
source_small s at (is t) (source.Is x o) h = (omega (arith, h.0.sized, h.0.small, h.0.within), may_small s at true t.organism o h.1)

letters_small : (s : List ℕ) → length (sifted s) ≤ length s
unfolding sifted
letters_small [] = omega arith
letters_small (b ∷ s) = go (letters_small s) (letter b) refl (eqb b 47) refl (skipped b) refl
  where
    go : length (sifted s) ≤ length s → (x : Bool) → letter b ≡ x → (y : Bool) → eqb b 47 ≡ y → (z : Bool) → skipped b ≡ z → length (sifted (b ∷ s)) ≤ suc (length s)
    go h true e y f z g = rw (sifted, e) (omega arith)
    go h false e true f z g = rw (sifted, e, f) (omega arith)
    go h false e false f true g = rw (sifted, e, f, g) (omega arith)
    go h false e false f false g = rw (sifted, e, f, g) (omega arith)

-- the texts of LOCUS
abbrev locus_long : Locus → ℕ
locus_long l = may_long l.name + may_long l.molecule + length l.division

span_small : (s : List ℕ) (x : Span) → length (spanned s x) ≤ length s
span_small s x = simp (length-take, length-drop) (omega arith)

locus_small : (s : List ℕ) (p : LocusPlan) → locus_long (planned s p) ≤ 3 * length s + 3
locus_small s locus.Unknown = omega arith
locus_small s (locus.Known name n molecule circular division date) = go molecule
  where
    go : (m : Option Span) → locus_long (planned s (locus.Known name n m circular division date)) ≤ 3 * length s + 3
    go None = omega (arith, span_small s name, span_small s division)
    go (Some x) = omega (arith, span_small s name, span_small s division, span_small s x)

-- n is the length of the slice
pub record SmallParts (n : ℕ) (t : Table) : Type 0 where
  pub head : length (pieces_text (head_pieces t)) ≤ 10 * n + 3
  pub reference_texts : length (texts_of reference_pieces t.references) ≤ n
  pub comment_texts : length (texts_of comment_pieces t.comments) ≤ n
  pub feature_texts : length (each feature_text t.features) ≤ n
  pub contig : length (piece_text (perhaps (contig_text t.contig))) ≤ n
  pub references : length t.references ≤ n
  pub comments : length t.comments ≤ n
  pub features : length t.features ≤ n
  pub qualifiers : qualifier_count t.features ≤ n
  pub locations : location_count t.features ≤ n
  pub contig_rows : length (contig_rows t.contig) ≤ n
  pub letters : length t.letters ≤ n

head_long : (t : Table) →
    length (pieces_text (head_pieces t)) ≡
    may_long t.locus.name + (may_long t.locus.molecule + (length t.locus.division + (may_long t.definition + (may_long t.accession +
    (may_long t.version + (may_long t.dblink + (may_long t.keywords + (may_long (source_of t.source) + may_long (organism_of t.source)))))))))
unfolding pieces_text
head_long t = simp length-append (omega arith)

pub small_parts : (s : List ℕ) (p : Plan) → PlanStands s p → SmallParts (length s) (plan_table s p)
small_parts s p h =
    let q : TableParts s p = table_parts s p in
    let g = h.header in
    let m = h.rest.middle in
    let at : ℕ = p.header_at in
    let fs : List Field = fields_at (drop at s) in
    record {
      head =
          let l : locus_long (plan_table s p).locus ≤ 3 * length s + 3 = rw q.locus (locus_small s p.locus) in
          let d : may_long (plan_table s p).definition ≤ length s = rw q.definition (may_small s at true (latest (text_in (bytes "DEFINITION")) fs) p.header.definition g.definition) in
          let a : may_long (plan_table s p).accession ≤ length s = rw q.accession (may_small s at true (latest (text_in (bytes "ACCESSION")) fs) p.header.accession g.accession) in
          let v : may_long (plan_table s p).version ≤ length s = rw q.version (may_small s at true (latest (text_in (bytes "VERSION")) fs) p.header.version g.version) in
          let b : may_long (plan_table s p).dblink ≤ length s = rw q.dblink (may_small s at true (latest (text_in (bytes "DBLINK")) fs) p.header.dblink g.dblink) in
          let k : may_long (plan_table s p).keywords ≤ length s = rw q.keywords (may_small s at true (latest (text_in (bytes "KEYWORDS")) fs) p.header.keywords g.keywords) in
          let c : (may_long (source_of (plan_table s p).source) ≤ length s) × (may_long (organism_of (plan_table s p).source) ≤ length s) =
          rw q.source (source_small s at (latest source_in fs) p.header.source g.source) in
          omega (arith, head_long (plan_table s p));
      reference_texts = rw q.references (omega (arith, g.reference_bytes, g.small, g.within));
      comment_texts = rw q.comments (omega (arith, g.comment_bytes, g.small, g.within));
      feature_texts = rw q.features (omega (arith, m.read.bytes, m.read.small, m.read.within));
      contig = rw (q.contig, as_text (contig_in s p.rest.contig)) (may_small s 0 false (contig_in s p.rest.contig) p.rest.contig m.contig.text);
      references = rw q.references (omega (arith, g.references, g.few, g.within));
      comments = rw q.comments (omega (arith, g.comments, g.few, g.within));
      features = rw q.features (omega (arith, m.read.count, m.read.few, m.read.within));
      qualifiers = rw q.features (omega (arith, m.read.qualifiers, m.read.few, m.read.within));
      locations = rw q.features (omega (arith, m.read.rows, m.read.short, m.read.within));
      contig_rows =
          rw q.contig (omega (arith, m.contig.counted, m.contig.few, entry_small s 0 false (contig_in s p.rest.contig) p.rest.contig m.contig.text));
      letters = rw q.letters (omega (arith, letters_small (drop p.rest.letters_at s), length-drop p.rest.letters_at s));
    }
