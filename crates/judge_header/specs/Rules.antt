-- What a rule asks of header texts, and what is known of the rooms where they lie.
use Rattle.std.specs.Prelude.{ℕ, ◌+◌, ◌*◌, ◌≤◌, ◌<◌, Bool, List, length}
use Rattle.spec_format.specs.Rooms.{Rooms}
use Rattle.spec_format.specs.Utf8.{utf8}
use Rattle.spec_format.specs.Keeping.{header_kept}
use Rattle.spec_format.specs.declared.Head.{Head}
use Rattle.judge_rooms.specs.Facts.{TextIn, SourceIn, RowText, RowPerhaps, ReferenceIn, RoomsIn}
use Rattle.judge_header.specs.declared.Rule.{Rule}
use Rattle.judge_header.specs.declared.Rule.TheVariants as rule
use Rattle.spec_format.specs.Record.{most}

abbrev pub header_of : Rule → List ℕ → Bool
header_of (rule.Fine W) t = utf8 t
header_of (rule.Kept W) t = header_kept W t

pub record Known (texts : List ℕ) (start n : ℕ) : Type 0 where
  pub small : length texts ≤ most
  pub inside : start + n ≤ length texts

pub record RowKnown (texts rows : List ℕ) (at : ℕ) : Type 0 where
  pub small : length texts ≤ most
  pub row : at + 1 < length rows
  pub inside : RowText texts rows at

pub record PerhapsKnown (texts rows : List ℕ) (at : ℕ) : Type 0 where
  pub small : length texts ≤ most
  pub row : at + 1 < length rows
  pub inside : RowPerhaps texts rows at

pub record ReferencesKnown (texts rows : List ℕ) (n : ℕ) : Type 0 where
  pub small : length texts ≤ most
  pub long : 14 * n ≤ length rows
  pub each : (i : ℕ) → i < n → ReferenceIn texts rows (14 * i)

pub record CommentsKnown (texts rows : List ℕ) (n : ℕ) : Type 0 where
  pub small : length texts ≤ most
  pub long : 2 * n ≤ length rows
  pub each : (i : ℕ) → i < n → RowText texts rows (2 * i)

pub record HeaderKnown (texts references comments : List ℕ) (h : Head) : Type 0 where
  pub small : length texts ≤ most
  pub definition : TextIn texts h.definition
  pub accession : TextIn texts h.accession
  pub version : TextIn texts h.version
  pub dblink : TextIn texts h.dblink
  pub keywords : TextIn texts h.keywords
  pub source : SourceIn texts h.source
  pub references_are : ReferencesKnown texts references h.references
  pub comments_are : CommentsKnown texts comments h.comments

-- rooms for which number 10 is not due
pub header_known : (r : Rooms) (h : Head) → RoomsIn r h → HeaderKnown r.texts r.references r.comments h
header_known r h k =
    record {
      small = k.lengths.texts;
      definition = k.head.definition;
      accession = k.head.accession;
      version = k.head.version;
      dblink = k.head.dblink;
      keywords = k.head.keywords;
      source = k.head.source;
      references_are = record { small = k.lengths.texts; long = k.counts.references; each = k.reference };
      comments_are = record { small = k.lengths.texts; long = k.counts.comments; each = k.comment };
    }
