-- How many bytes the texts of a head take, and where each lies once they are put one after the other.
use Rattle.std.specs.Prelude.{ℕ, ◌+◌, Bool, false, Option, Some, None}
use Rattle.spec_format.specs.declared.ContigText.{ContigText}
use Rattle.spec_format.specs.declared.Span.{Span}
use Rattle.spec_format.specs.declared.SourceText.{SourceText}
use Rattle.spec_format.specs.declared.Date.{Date}
use Rattle.spec_format.specs.declared.Head.{Head}
use Rattle.read_locus.specs.declared.LocusPlan.{LocusPlan}
use Rattle.read_locus.specs.declared.LocusPlan.TheVariants as plan
use Rattle.read_field_optional.specs.declared.MayEntry.{MayEntry}
use Rattle.read_field_optional.specs.declared.MayEntry.TheVariants as may
use Rattle.read_field_optional.specs.Fields.{may_length}
use Rattle.read_field_all.specs.declared.MaySource.{MaySource}
use Rattle.read_field_all.specs.declared.MaySource.TheVariants as found
use Rattle.read_field_all.specs.declared.Header.{Header}
use Rattle.read_record_head.specs.declared.LocusHead.{LocusHead}
use Rattle.read_record_head.specs.declared.HeaderTexts.{HeaderTexts}

abbrev pub text_length : Option Span → ℕ
text_length None = 0
text_length (Some x) = x.length

abbrev pub locus_bytes : LocusPlan → ℕ
locus_bytes plan.Unknown = 3
locus_bytes (plan.Known name n molecule circular division date) = name.length + text_length molecule + division.length

abbrev pub header_bytes : Header → ℕ
header_bytes h = may_length h.definition + may_length h.accession + may_length h.version + may_length h.dblink + may_length h.keywords

abbrev pub source_bytes : MaySource → ℕ
source_bytes found.Absent = 0
source_bytes (found.Is text organism) = text.length + may_length organism

abbrev pub head_bytes : LocusPlan → Header → ℕ
head_bytes locus h = locus_bytes locus + header_bytes h + source_bytes h.source

-- ---- places

abbrev pub text_from : ℕ → Option Span → Option Span
text_from place None = None
text_from place (Some x) = Some (record { start = place; length = x.length })

abbrev pub known_head : Span → ℕ → Option Span → Bool → Span → Date → LocusHead
known_head name n molecule circular division date =
    record {
      name = Some (record { start = 0; length = name.length });
      length = Some n;
      molecule = text_from name.length molecule;
      circular = circular;
      division = record { start = name.length + text_length molecule; length = division.length };
      date = Some date;
      next = name.length + text_length molecule + division.length;
    }

abbrev pub locus_head : LocusPlan → LocusHead
locus_head plan.Unknown =
    record {
      name = None;
      length = None;
      molecule = None;
      circular = false;
      division = record { start = 0; length = 3 };
      date = None;
      next = 3;
    }
locus_head (plan.Known name n molecule circular division date) = known_head name n molecule circular division date

abbrev pub entry_at : ℕ → MayEntry → Option Span
entry_at place may.Absent = None
entry_at place (may.Is e) = Some (record { start = place; length = e.length })

abbrev pub header_texts : ℕ → Header → HeaderTexts
header_texts place h =
    record {
      definition = entry_at place h.definition;
      accession = entry_at (place + may_length h.definition) h.accession;
      version = entry_at (place + may_length h.definition + may_length h.accession) h.version;
      dblink = entry_at (place + may_length h.definition + may_length h.accession + may_length h.version) h.dblink;
      keywords = entry_at (place + may_length h.definition + may_length h.accession + may_length h.version + may_length h.dblink) h.keywords;
      next = place + may_length h.definition + may_length h.accession + may_length h.version + may_length h.dblink + may_length h.keywords;
    }

abbrev pub source_at : ℕ → MaySource → Option SourceText
source_at place found.Absent = None
source_at place (found.Is text organism) = Some (record { text = record { start = place; length = text.length }; organism = entry_at (place + text.length) organism })

-- the head, with CONTIG, which is put later, and the counts
unfoldable pub head_in : LocusPlan → Header → ℕ → Option ContigText → ℕ → Head
head_in locus h features contig letters =
    record {
      name = (locus_head locus).name;
      length = (locus_head locus).length;
      molecule = (locus_head locus).molecule;
      circular = (locus_head locus).circular;
      division = (locus_head locus).division;
      date = (locus_head locus).date;
      definition = (header_texts (locus_head locus).next h).definition;
      accession = (header_texts (locus_head locus).next h).accession;
      version = (header_texts (locus_head locus).next h).version;
      dblink = (header_texts (locus_head locus).next h).dblink;
      keywords = (header_texts (locus_head locus).next h).keywords;
      source = source_at (header_texts (locus_head locus).next h).next h.source;
      references = h.references;
      comments = h.comments;
      features = features;
      contig = contig;
      letters = letters;
    }
