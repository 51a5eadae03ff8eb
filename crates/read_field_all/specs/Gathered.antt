-- What a header has, as the code answers it.
use Rattle.std.specs.Prelude.{ℕ, ◌+◌, ◌≤◌, ◌≡◌, true, List, length, drop, ltb}
use Rattle.spec_format.specs.Bytes.{May, absent, is, bytes}
use Rattle.spec_format.specs.Readers.{got, members, try_turn, while_fits}
use Rattle.spec_format.specs.Table.{Source}
use Rattle.spec_format.specs.Header.{Field, header_field, latest, every, text_in, source_in, reference_in}
use Rattle.spec_format.specs.Rooms.{reference_pieces, comment_pieces, texts_of}
use Rattle.read_field_optional.specs.Fields.{Stands, MayStand}
use Rattle.read_field_all.specs.declared.MaySource.{MaySource}
use Rattle.read_field_all.specs.declared.MaySource.TheVariants as source
use Rattle.read_field_all.specs.declared.Header.{Header}

-- the fields of a header that starts here
abbrev pub fields_at : List ℕ → List Field
fields_at x = members (try_turn header_field) x

abbrev pub SourceStands : List ℕ → ℕ → May Source → MaySource → Type 0
SourceStands s at absent source.Absent = Unit
SourceStands s at absent (source.Is text organism) = ⊥
SourceStands s at (is x) source.Absent = ⊥
SourceStands s at (is x) (source.Is text organism) = Stands s at true x.text text × MayStand s at true x.organism organism

-- h says of the fields fs, which end before `h.next`, what counts; `Ended` is what else is known of them
pub record Gathers (Ended : Type 0) (s : List ℕ) (at : ℕ) (fs : List Field) (h : Header) : Type 0 where
  pub ended : Ended
  pub definition : MayStand s at true (latest (text_in (bytes "DEFINITION")) fs) h.definition
  pub accession : MayStand s at true (latest (text_in (bytes "ACCESSION")) fs) h.accession
  pub version : MayStand s at true (latest (text_in (bytes "VERSION")) fs) h.version
  pub dblink : MayStand s at true (latest (text_in (bytes "DBLINK")) fs) h.dblink
  pub keywords : MayStand s at true (latest (text_in (bytes "KEYWORDS")) fs) h.keywords
  pub source : SourceStands s at (latest source_in fs) h.source
  pub twice : h.twice ≡ ltb 1 (length (every (text_in (bytes "DEFINITION")) fs))
  pub references : h.references ≡ length (every reference_in fs)
  pub reference_bytes : h.reference_bytes ≡ length (texts_of reference_pieces (every reference_in fs))
  pub comments : h.comments ≡ length (every (text_in (bytes "COMMENT")) fs)
  pub comment_bytes : h.comment_bytes ≡ length (texts_of comment_pieces (every (text_in (bytes "COMMENT")) fs))
  pub from : at ≤ h.next
  pub within : h.next ≤ length s
  pub small : h.reference_bytes + h.comment_bytes + at ≤ h.next
  pub few : h.references + h.comments + at ≤ h.next

-- of the whole header
abbrev pub Gathered : List ℕ → ℕ → List Field → Header → Type 0
Gathered s at fs h = Gathers (while_fits header_field (drop at s) ≡ got fs (drop h.next s)) s at fs h
