-- A table whose head stands in the slice where a plan and a header say: its texts, their bytes and its head are what the code makes of these.
-- Assumes nothing.
use Rattle.std.specs.Prelude.{ℕ, ◌+◌, ◌*◌, ◌≤◌, ◌<◌, ◌^◌, ◌≡◌, Bool, true, List, ◌++◌, length, Option, Some, None}
use Rattle.std.proofs.Math.Path.{refl}
use Rattle.std.proofs.Common.{sym, append_assoc, append-nil, arith, length-take, length-drop}
use Rattle.std.proofs.Math.ListN.{length-append}
use Rattle.spec_format.specs.Bytes.{May, absent, is, bytes}
use Rattle.spec_format.specs.Header.{Field, latest, text_in, source_in}
use Rattle.spec_format.specs.Table.{Locus, Source, Table}
use Rattle.spec_format.specs.Rooms.{piece_text, perhaps, pieces_text, head_pieces, source_of, organism_of, start_of, span_of, text_at, source_at, length_of, contig_at, contig_text_at, location_count, head_of}
use Rattle.spec_format.specs.declared.ContigText.{ContigText}
use Rattle.spec_format.specs.declared.Span.{Span}
use Rattle.spec_format.specs.declared.SourceText.{SourceText}
use Rattle.spec_format.specs.declared.Head.{Head}
use Rattle.read_locus_tokens.specs.Parts.{spanned, Ends}
use Rattle.read_locus.specs.declared.LocusPlan.{LocusPlan}
use Rattle.read_locus.specs.declared.LocusPlan.TheVariants as plan
use Rattle.read_locus.specs.Plans as plans
use Rattle.read_locus.specs.Plans.{planned, TextEnds, PlanEnds}
use Rattle.read_field_optional.specs.declared.MayEntry.{MayEntry}
use Rattle.read_field_optional.specs.declared.MayEntry.TheVariants as may
use Rattle.read_field_optional.specs.Fields.{Stands, MayStand, may_length}
use Rattle.read_field_reference.specs.Parts.{size}
use Rattle.read_field_reference.specs.Standing.{may_sized}
use Rattle.read_field_all.specs.declared.MaySource.{MaySource}
use Rattle.read_field_all.specs.declared.MaySource.TheVariants as found
use Rattle.read_field_all.specs.declared.Header.{Header}
use Rattle.read_field_all.specs.Gathered.{SourceStands, Gathers}
use Rattle.read_record_head.specs.declared.LocusHead.{LocusHead}
use Rattle.read_record_head.specs.declared.HeaderTexts.{HeaderTexts}
use Rattle.read_record_head.specs.Texts.{text_of, locus_text, may_text, source_text, head_text, EntryGets, MayGets, SourceGets, HeadGets}
use Rattle.read_record_head.specs.Places as places
use Rattle.read_record_head.specs.Places.{text_length, text_from, locus_bytes, source_bytes, head_bytes, locus_head, entry_at, header_texts, head_in}
use Rattle.spec_format.specs.Record.{most}

pub record HeadStands (s : List ℕ) (at : ℕ) (locus : LocusPlan) (h : Header) (t : Table) : Type 0 where
  pub plan : t.locus ≡ planned s locus
  pub ends : PlanEnds (length s) locus
  pub definition : MayStand s at true t.definition h.definition
  pub accession : MayStand s at true t.accession h.accession
  pub version : MayStand s at true t.version h.version
  pub dblink : MayStand s at true t.dblink h.dblink
  pub keywords : MayStand s at true t.keywords h.keywords
  pub source : SourceStands s at t.source h.source

-- ---- one text of the header

module _ (s : List ℕ) (at : ℕ) where
  entry_gets : (t : List ℕ) (e : _) → Stands s at true t e → EntryGets s e
  entry_gets t e h = (omega (arith, h.ahead, h.within), rw h.again tt)

  may_gets : (t : May (List ℕ)) (e : MayEntry) → MayStand s at true t e → MayGets s e
  may_gets absent may.Absent h = tt
  may_gets absent (may.Is e) h = absurd h
  may_gets (is t) may.Absent h = absurd h
  may_gets (is t) (may.Is e) h = entry_gets t e h

  may_text_lem : (t : May (List ℕ)) (e : MayEntry) → MayStand s at true t e → may_text s e ≡ piece_text (perhaps t)
  may_text_lem absent may.Absent h = refl
  may_text_lem absent (may.Is e) h = absurd h
  may_text_lem (is t) may.Absent h = absurd h
  may_text_lem (is t) (may.Is e) h = rw h.again

  may_within : (keep : Bool) (t : May (List ℕ)) (e : MayEntry) → MayStand s at keep t e → may_length e ≤ length s
  may_within keep absent may.Absent h = omega arith
  may_within keep absent (may.Is e) h = absurd h
  may_within keep (is t) may.Absent h = absurd h
  may_within keep (is t) (may.Is e) h = omega (arith, h.small, h.within)

  pub may_at : (keep : Bool) (place : ℕ) (t : May (List ℕ)) (e : MayEntry) → MayStand s at keep t e → entry_at place e ≡ text_at place t
  may_at keep place absent may.Absent h = refl
  may_at keep place absent (may.Is e) h = absurd h
  may_at keep place (is t) may.Absent h = absurd h
  may_at keep place (is t) (may.Is e) h = rw h.sized

  -- ---- SOURCE and ORGANISM

  source_gets : (t : May Source) (x : MaySource) → SourceStands s at t x → SourceGets s x
  source_gets absent found.Absent h = tt
  source_gets absent (found.Is text organism) h = absurd h
  source_gets (is t) found.Absent h = absurd h
  source_gets (is t) (found.Is text organism) h = (entry_gets t.text text h.0, may_gets t.organism organism h.1)

  source_text_lem : (t : May Source) (x : MaySource) → SourceStands s at t x → source_text s x ≡ piece_text (perhaps (source_of t)) ++ piece_text (perhaps (organism_of t))
  source_text_lem absent found.Absent h = refl
  source_text_lem absent (found.Is text organism) h = absurd h
  source_text_lem (is t) found.Absent h = absurd h
  source_text_lem (is t) (found.Is text organism) h = rw (h.0.again, may_text_lem t.organism organism h.1)

  source_sized : (t : May Source) (x : MaySource) → SourceStands s at t x → source_bytes x ≡ size (source_of t) + size (organism_of t)
  source_sized absent found.Absent h = refl
  source_sized absent (found.Is text organism) h = absurd h
  source_sized (is t) found.Absent h = absurd h
  source_sized (is t) (found.Is text organism) h = omega (arith, h.0.sized, may_sized s at true t.organism organism h.1)

  source_within : (t : May Source) (x : MaySource) → SourceStands s at t x → source_bytes x ≤ 2 * length s
  source_within absent found.Absent h = omega arith
  source_within absent (found.Is text organism) h = absurd h
  source_within (is t) found.Absent h = absurd h
  source_within (is t) (found.Is text organism) h = omega (arith, h.0.small, h.0.within, may_within true t.organism organism h.1)

  source_placed : (place : ℕ) (t : May Source) (x : MaySource) → SourceStands s at t x → places.source_at place x ≡ source_at place (place + size (source_of t)) t
  source_placed place absent found.Absent h = refl
  source_placed place absent (found.Is text organism) h = absurd h
  source_placed place (is t) found.Absent h = absurd h
  source_placed place (is t) (found.Is text organism) h = rw (may_at true (place + text.length) t.organism organism h.1, h.0.sized)

-- ---- LOCUS

module _ (s : List ℕ) where
  span_length : (x : Span) → Ends (length s) x → length (spanned s x) ≡ x.length
  span_length x h = simp (length-take, length-drop) (omega arith)

  text_is : (x : Option Span) → text_of s x ≡ piece_text (perhaps (plans.text_in s x))
  text_is None = refl
  text_is (Some x) = refl

  text_sized : (x : Option Span) → TextEnds (length s) x → text_length x ≡ size (plans.text_in s x)
  text_sized None h = refl
  text_sized (Some x) h = sym (span_length x h)

  text_placed : (place : ℕ) (x : Option Span) → TextEnds (length s) x → text_from place x ≡ text_at place (plans.text_in s x)
  text_placed place None h = refl
  text_placed place (Some x) h = rw (span_length x h)

  text_within : (x : Option Span) → TextEnds (length s) x → text_length x ≤ length s
  text_within None h = omega arith
  text_within (Some x) h = omega arith

  locus_text_lem : (p : LocusPlan) → locus_text s p ≡ piece_text (perhaps (planned s p).name) ++ piece_text (perhaps (planned s p).molecule) ++ (planned s p).division
  locus_text_lem plan.Unknown = refl
  locus_text_lem (plan.Known name n molecule circular division date) = rw (text_is molecule)

  locus_sized : (p : LocusPlan) → PlanEnds (length s) p → locus_bytes p ≡ size (planned s p).name + size (planned s p).molecule + length (planned s p).division
  locus_sized plan.Unknown h = refl
  locus_sized (plan.Known name n molecule circular division date) h =
      omega (arith, span_length name h.0, text_sized molecule h.1.0, span_length division h.1.1)

  locus_within : (p : LocusPlan) → PlanEnds (length s) p → locus_bytes p ≤ 3 * length s + 3
  locus_within plan.Unknown h = omega arith
  locus_within (plan.Known name n molecule circular division date) h = let m = text_within molecule h.1.0 in omega (arith, h.0, h.1.1, m)

-- where the LOCUS texts lie, with the other values
abbrev locus_of : Locus → LocusHead
locus_of l =
    record {
      name = text_at 0 l.name;
      length = length_of l.length;
      molecule = text_at (size l.name) l.molecule;
      circular = l.circular;
      division = span_of (size l.name + size l.molecule) l.division;
      date = l.date;
      next = size l.name + size l.molecule + length l.division;
    }

locus_placed : (s : List ℕ) (p : LocusPlan) → PlanEnds (length s) p → locus_head p ≡ locus_of (planned s p)
locus_placed s plan.Unknown h = refl
locus_placed s (plan.Known name n molecule circular division date) h =
    rw (text_placed s name.length molecule h.1.0, text_sized s molecule h.1.0, span_length s name h.0, span_length s division h.1.1)

-- ---- the head

-- a head from where its texts lie, and the counts
abbrev head_from : LocusHead → HeaderTexts → Option SourceText → ℕ → ℕ → ℕ → Option ContigText → ℕ → Head
head_from l x source references comments features contig letters =
    record {
      name = l.name;
      length = l.length;
      molecule = l.molecule;
      circular = l.circular;
      division = l.division;
      date = l.date;
      definition = x.definition;
      accession = x.accession;
      version = x.version;
      dblink = x.dblink;
      keywords = x.keywords;
      source = source;
      references = references;
      comments = comments;
      features = features;
      contig = contig;
      letters = letters;
    }

module _ (t : Table) where
  start_0 : start_of t 0 ≡ 0
  unfolding pieces_text
  start_0 = refl

  start_1 : start_of t 1 ≡ size t.locus.name
  unfolding pieces_text
  start_1 = simp length-append (omega arith)

  start_2 : start_of t 2 ≡ size t.locus.name + size t.locus.molecule
  unfolding pieces_text
  start_2 = simp length-append (omega arith)

  start_3 : start_of t 3 ≡ (locus_of t.locus).next
  unfolding pieces_text
  start_3 = simp length-append (omega arith)

  start_4 : start_of t 4 ≡ (locus_of t.locus).next + size t.definition
  unfolding pieces_text
  start_4 = simp length-append (omega arith)

  start_5 : start_of t 5 ≡ (locus_of t.locus).next + size t.definition + size t.accession
  unfolding pieces_text
  start_5 = simp length-append (omega arith)

  start_6 : start_of t 6 ≡ (locus_of t.locus).next + size t.definition + size t.accession + size t.version
  unfolding pieces_text
  start_6 = simp length-append (omega arith)

  start_7 : start_of t 7 ≡ (locus_of t.locus).next + size t.definition + size t.accession + size t.version + size t.dblink
  unfolding pieces_text
  start_7 = simp length-append (omega arith)

  start_8 : start_of t 8 ≡ (locus_of t.locus).next + size t.definition + size t.accession + size t.version + size t.dblink + size t.keywords
  unfolding pieces_text
  start_8 = simp length-append (omega arith)

  start_9 :
      start_of t 9 ≡
      (locus_of t.locus).next + size t.definition + size t.accession + size t.version + size t.dblink + size t.keywords + size (source_of t.source)
  unfolding pieces_text
  start_9 = simp length-append (omega arith)

-- where the texts of the header lie that start at a place
abbrev header_of : ℕ → Table → HeaderTexts
header_of place t =
    record {
      definition = text_at place t.definition;
      accession = text_at (place + size t.definition) t.accession;
      version = text_at (place + size t.definition + size t.accession) t.version;
      dblink = text_at (place + size t.definition + size t.accession + size t.version) t.dblink;
      keywords = text_at (place + size t.definition + size t.accession + size t.version + size t.dblink) t.keywords;
      next = place + size t.definition + size t.accession + size t.version + size t.dblink + size t.keywords;
    }

head_parts :
    (t : Table) →
    head_of t ≡
    head_from (locus_of t.locus) (header_of (locus_of t.locus).next t)
    (source_at (header_of (locus_of t.locus).next t).next ((header_of (locus_of t.locus).next t).next + size (source_of t.source)) t.source)
    (length t.references) (length t.comments) (length t.features) (contig_text_at (contig_at t) (location_count t.features) t.contig)
    (length t.letters)
unfolding head_of
head_parts t = rw (start_0 t, start_1 t, start_2 t, start_3 t, start_4 t, start_5 t, start_6 t, start_7 t, start_8 t, start_9 t)

-- ---- the table

module _ (s : List ℕ) (at : ℕ) (locus : LocusPlan) (h : Header) (t : Table) (k : HeadStands s at locus h t) where
  -- what `put_head` asks for
  pub head_gets : HeadGets s locus h
  head_gets =
      record {
        plan = k.ends;
        header = record {
          definition = may_gets s at t.definition h.definition k.definition;
          accession = may_gets s at t.accession h.accession k.accession;
          version = may_gets s at t.version h.version k.version;
          dblink = may_gets s at t.dblink h.dblink k.dblink;
          keywords = may_gets s at t.keywords h.keywords k.keywords;
        };
        source = source_gets s at t.source h.source k.source;
      }

  line_text_lem : locus_text s locus ≡ piece_text (perhaps t.locus.name) ++ piece_text (perhaps t.locus.molecule) ++ t.locus.division
  line_text_lem = rw k.plan (locus_text_lem s locus)

  line_sized : locus_bytes locus ≡ size t.locus.name + size t.locus.molecule + length t.locus.division
  line_sized = rw k.plan (locus_sized s locus k.ends)

  line_placed : locus_head locus ≡ locus_of t.locus
  line_placed = rw k.plan (locus_placed s locus k.ends)

  -- what `put_head` puts
  pub head_text_lem : head_text s locus h ≡ pieces_text (head_pieces t)
  unfolding pieces_text
  head_text_lem =
      rw (
        line_text_lem,
        may_text_lem s at t.definition h.definition k.definition,
        may_text_lem s at t.accession h.accession k.accession,
        may_text_lem s at t.version h.version k.version,
        may_text_lem s at t.dblink h.dblink k.dblink,
        may_text_lem s at t.keywords h.keywords k.keywords,
        source_text_lem s at t.source h.source k.source,
      )
      (simp (append_assoc, append-nil))

  definition_sized : may_length h.definition ≡ size t.definition
  definition_sized = may_sized s at true t.definition h.definition k.definition

  accession_sized : may_length h.accession ≡ size t.accession
  accession_sized = may_sized s at true t.accession h.accession k.accession

  version_sized : may_length h.version ≡ size t.version
  version_sized = may_sized s at true t.version h.version k.version

  dblink_sized : may_length h.dblink ≡ size t.dblink
  dblink_sized = may_sized s at true t.dblink h.dblink k.dblink

  keywords_sized : may_length h.keywords ≡ size t.keywords
  keywords_sized = may_sized s at true t.keywords h.keywords k.keywords

  -- what `head_bytes` counts
  pub head_sized : head_bytes locus h ≡ length (pieces_text (head_pieces t))
  unfolding pieces_text
  head_sized =
      simp length-append
      (omega
      (arith, line_sized, definition_sized, accession_sized, version_sized, dblink_sized, keywords_sized, source_sized s at t.source h.source k.source))

  -- what `head_bytes`, `head_of` and `put_head` ask for
  pub head_small : length s ≤ most → head_bytes locus h < 2 ^ 64
  head_small l =
      omega (
        arith,
        locus_within s locus k.ends,
        may_within s at true t.definition h.definition k.definition,
        may_within s at true t.accession h.accession k.accession,
        may_within s at true t.version h.version k.version,
        may_within s at true t.dblink h.dblink k.dblink,
        may_within s at true t.keywords h.keywords k.keywords,
        source_within s at t.source h.source k.source,
      )

  pub text_small : length s ≤ most → length (head_text s locus h) < 2 ^ 64
  text_small l = let e : length (head_text s locus h) ≡ head_bytes locus h = rw (head_text_lem, head_sized) in let n = head_small l in omega (arith, e, n)

  header_placed : (place : ℕ) → header_texts place h ≡ header_of place t
  header_placed place =
      rw (
        definition_sized,
        accession_sized,
        version_sized,
        dblink_sized,
        keywords_sized,
        may_at s at true place t.definition h.definition k.definition,
        may_at s at true (place + size t.definition) t.accession h.accession k.accession,
        may_at s at true (place + size t.definition + size t.accession) t.version h.version k.version,
        may_at s at true (place + size t.definition + size t.accession + size t.version) t.dblink h.dblink k.dblink,
        may_at s at true (place + size t.definition + size t.accession + size t.version + size t.dblink) t.keywords h.keywords k.keywords,
      )

  -- what `head_of` makes
  pub head_made :
      (features : ℕ) (contig : Option ContigText) (letters : ℕ) → h.references ≡ length t.references → h.comments ≡ length t.comments →
      features ≡ length t.features → contig ≡ contig_text_at (contig_at t) (location_count t.features) t.contig → letters ≡ length t.letters →
      head_in locus h features contig letters ≡ head_of t
  unfolding head_in
  head_made features contig letters r c f m l =
      let a = line_placed in
      let b = header_placed (locus_head locus).next in
      let d = source_placed s at (header_texts (locus_head locus).next h).next t.source h.source k.source in
      go (locus_head locus) a (header_texts (locus_head locus).next h) b (places.source_at (header_texts (locus_head locus).next h).next h.source) d
    where
      go :
          (x : LocusHead) → x ≡ locus_of t.locus → (y : HeaderTexts) → y ≡ header_of x.next t → (z : Option SourceText) →
          z ≡ source_at y.next (y.next + size (source_of t.source)) t.source →
          head_from x y z h.references h.comments features contig letters ≡ head_of t
      go x a y b z d = rw (d, b, a, r, c, f, m, l) (sym (head_parts t))

-- a table made of a header's fields stands so
pub head_gathered :
    {E : Type 0} (s : List ℕ) (at : ℕ) (fs : List Field) (locus : LocusPlan) (h : Header) (t : Table) → Gathers E s at fs h → t.locus ≡ planned s locus →
    PlanEnds (length s) locus → t.definition ≡ latest (text_in (bytes "DEFINITION")) fs → t.accession ≡ latest (text_in (bytes "ACCESSION")) fs →
    t.version ≡ latest (text_in (bytes "VERSION")) fs → t.dblink ≡ latest (text_in (bytes "DBLINK")) fs → t.keywords ≡ latest (text_in (bytes "KEYWORDS")) fs →
    t.source ≡ latest source_in fs → HeadStands s at locus h t
head_gathered s at fs locus h t g plan ends definition accession version dblink keywords source =
    record {
      plan = plan;
      ends = ends;
      definition = rw definition g.definition;
      accession = rw accession g.accession;
      version = rw version g.version;
      dblink = rw dblink g.dblink;
      keywords = rw keywords g.keywords;
      source = rw source g.source;
    }
