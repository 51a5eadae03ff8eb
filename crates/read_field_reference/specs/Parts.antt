-- A reference in parts: each is read by a function of its own.
use Rattle.std.specs.Prelude.{ℕ, ◌+◌, ◌≤◌, ◌<◌, ◌≡◌, true, false, List, length, drop}
use Rattle.spec_format.specs.Bytes.{May, bytes}
use Rattle.spec_format.specs.Readers.{Ans, got, no, cut, bind}
use Rattle.spec_format.specs.Header.{field, maybe_field}
use Rattle.spec_format.specs.Rooms.{piece_text, perhaps}
use Rattle.read_field_entry.specs.declared.Entry.{Entry}
use Rattle.read_field_optional.specs.declared.MayEntry.{MayEntry}
use Rattle.read_field_optional.specs.Fields.{Stands, MayStand}
use Rattle.read_field_reference.specs.declared.PairAt.{PairAt}
use Rattle.read_field_reference.specs.declared.PairAt.TheVariants as pair
use Rattle.read_field_reference.specs.declared.Front.{Front}
use Rattle.read_field_reference.specs.declared.FrontAt.{FrontAt}
use Rattle.read_field_reference.specs.declared.FrontAt.TheVariants as front
use Rattle.read_field_reference.specs.declared.EndAt.{EndAt}
use Rattle.read_field_reference.specs.declared.EndAt.TheVariants as end
use Rattle.read_field_reference.specs.declared.Back.{Back}
use Rattle.read_field_reference.specs.declared.BackAt.{BackAt}
use Rattle.read_field_reference.specs.declared.BackAt.TheVariants as back
use Rattle.read_field_reference.specs.declared.ReferenceEntries.{ReferenceEntries}

-- how many bytes a text has that may be absent
abbrev pub size : May (List ℕ) → ℕ
size t = length (piece_text (perhaps t))

-- ---- an entry, and one that may follow it two columns in

pub record Pair : Type 0 where
  pub text : List ℕ
  pub more : May (List ℕ)

unfoldable pub pair_of : ℕ → List ℕ → List ℕ → List ℕ → Ans Pair
pair_of indent word after s = bind (field indent word true s) λ text s. bind (maybe_field 2 after true s) λ more s. got (record { text = text; more = more }) s

pub record PairKnown (s : List ℕ) (at : ℕ) (o : Ans Pair) (text : Entry) (more : MayEntry) (bytes next : ℕ) : Type 0 where
  pub the : Pair
  pub is : o ≡ got the (drop next s)
  pub stands : Stands s at true the.text text
  pub may : MayStand s at true the.more more
  pub sized : bytes ≡ length the.text + size the.more
  pub small : bytes + at ≤ next
  pub ahead : at < next
  pub within : next ≤ length s

abbrev pub PairAs : List ℕ → ℕ → Ans Pair → PairAt → Type 0
PairAs s at o (pair.Got text more bytes next) = PairKnown s at o text more bytes next
PairAs s at o pair.No = o ≡ no
PairAs s at o pair.Cut = o ≡ cut

pub record Pairs (s : List ℕ) (at : ℕ) (o : Ans Pair) (r : PairAt) : Type 0 where
  pub is : PairAs s at o r

-- ---- up to CONSRTM

pub record FrontTexts : Type 0 where
  pub text : List ℕ
  pub authors : May (List ℕ)
  pub consrtm : May (List ℕ)

unfoldable pub up_to_consrtm : List ℕ → Ans FrontTexts
up_to_consrtm s =
    bind (pair_of 0 (bytes "REFERENCE") (bytes "AUTHORS") s) λ p s. bind (maybe_field 2 (bytes "CONSRTM") true s) λ consrtm s.
    got (record { text = p.text; authors = p.more; consrtm = consrtm }) s

pub record FrontKnown (s : List ℕ) (at : ℕ) (o : Ans FrontTexts) (e : Front) (bytes next : ℕ) : Type 0 where
  pub the : FrontTexts
  pub is : o ≡ got the (drop next s)
  pub text : Stands s at true the.text e.text
  pub authors : MayStand s at true the.authors e.authors
  pub consrtm : MayStand s at true the.consrtm e.consrtm
  pub sized : bytes ≡ length the.text + size the.authors + size the.consrtm
  pub small : bytes + at ≤ next
  pub ahead : at < next
  pub within : next ≤ length s

abbrev pub FrontAs : List ℕ → ℕ → Ans FrontTexts → FrontAt → Type 0
FrontAs s at o (front.Got e bytes next) = FrontKnown s at o e bytes next
FrontAs s at o front.No = o ≡ no
FrontAs s at o front.Cut = o ≡ cut

pub record Fronts (s : List ℕ) (at : ℕ) (o : Ans FrontTexts) (r : FrontAt) : Type 0 where
  pub is : FrontAs s at o r

-- ---- after JOURNAL

pub record EndTexts : Type 0 where
  pub pubmed : May (List ℕ)
  pub remark : May (List ℕ)

unfoldable pub after_journal : List ℕ → Ans EndTexts
after_journal s =
    bind (maybe_field 3 (bytes "PUBMED") false s) λ pubmed s. bind (maybe_field 2 (bytes "REMARK") true s) λ remark s.
    got (record { pubmed = pubmed; remark = remark }) s

pub record EndKnown (s : List ℕ) (at : ℕ) (o : Ans EndTexts) (pubmed remark : MayEntry) (bytes next : ℕ) : Type 0 where
  pub the : EndTexts
  pub is : o ≡ got the (drop next s)
  pub first : MayStand s at false the.pubmed pubmed
  pub last : MayStand s at true the.remark remark
  pub sized : bytes ≡ size the.pubmed + size the.remark
  pub small : bytes + at ≤ next
  pub within : next ≤ length s

abbrev pub EndAs : List ℕ → ℕ → Ans EndTexts → EndAt → Type 0
EndAs s at o (end.Got pubmed remark bytes next) = EndKnown s at o pubmed remark bytes next
EndAs s at o end.Cut = o ≡ cut

pub record Ends (s : List ℕ) (at : ℕ) (o : Ans EndTexts) (r : EndAt) : Type 0 where
  pub is : EndAs s at o r

-- ---- from TITLE on

pub record BackTexts : Type 0 where
  pub title : List ℕ
  pub journal : May (List ℕ)
  pub pubmed : May (List ℕ)
  pub remark : May (List ℕ)

unfoldable pub from_title : List ℕ → Ans BackTexts
from_title s =
    bind (pair_of 2 (bytes "TITLE") (bytes "JOURNAL") s) λ p s. bind (after_journal s) λ e s.
    got (record { title = p.text; journal = p.more; pubmed = e.pubmed; remark = e.remark }) s

pub record BackKnown (s : List ℕ) (at : ℕ) (o : Ans BackTexts) (e : Back) (bytes next : ℕ) : Type 0 where
  pub the : BackTexts
  pub is : o ≡ got the (drop next s)
  pub title : Stands s at true the.title e.title
  pub journal : MayStand s at true the.journal e.journal
  pub pubmed : MayStand s at false the.pubmed e.pubmed
  pub remark : MayStand s at true the.remark e.remark
  pub sized : bytes ≡ length the.title + size the.journal + (size the.pubmed + size the.remark)
  pub small : bytes + at ≤ next
  pub within : next ≤ length s

abbrev pub BackAs : List ℕ → ℕ → Ans BackTexts → BackAt → Type 0
BackAs s at o (back.Got e bytes next) = BackKnown s at o e bytes next
BackAs s at o back.No = o ≡ no
BackAs s at o back.Cut = o ≡ cut

pub record Backs (s : List ℕ) (at : ℕ) (o : Ans BackTexts) (r : BackAt) : Type 0 where
  pub is : BackAs s at o r

abbrev pub joined_entries : Front → Back → ReferenceEntries
joined_entries f b =
    record {
      text = f.text;
      authors = f.authors;
      consrtm = f.consrtm;
      title = b.title;
      journal = b.journal;
      pubmed = b.pubmed;
      remark = b.remark;
    }
