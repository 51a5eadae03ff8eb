-- A reference as the code answers it: where its texts stand, and how many bytes they have.
use Rattle.std.specs.Prelude.{ℕ, ◌+◌, ◌≤◌, ◌<◌, ◌≡◌, true, false, List, length, drop}
use Rattle.spec_format.specs.Readers.{Ans, got, no, cut}
use Rattle.spec_format.specs.Table.{Reference}
use Rattle.spec_format.specs.Rooms.{pieces_text, reference_pieces}
use Rattle.read_field_optional.specs.Fields.{Stands, MayStand}
use Rattle.read_field_reference.specs.declared.ReferenceEntries.{ReferenceEntries}
use Rattle.read_field_reference.specs.declared.ReferenceAt.{ReferenceAt}
use Rattle.read_field_reference.specs.declared.ReferenceAt.TheVariants as reference

-- the texts of a reference stand where its entries say
pub record ReferenceStands (s : List ℕ) (at : ℕ) (x : Reference) (e : ReferenceEntries) : Type 0 where
  pub text : Stands s at true x.text e.text
  pub authors : MayStand s at true x.authors e.authors
  pub consrtm : MayStand s at true x.consrtm e.consrtm
  pub title : Stands s at true x.title e.title
  pub journal : MayStand s at true x.journal e.journal
  pub pubmed : MayStand s at false x.pubmed e.pubmed
  pub remark : MayStand s at true x.remark e.remark

pub record ReferenceKnown (s : List ℕ) (at : ℕ) (x : Reference) (e : ReferenceEntries) (bytes next : ℕ) : Type 0 where
  pub stands : ReferenceStands s at x e
  pub sized : bytes ≡ length (pieces_text (reference_pieces x))
  pub small : bytes + at ≤ next

pub record ReferenceGot (s : List ℕ) (at : ℕ) (o : Ans Reference) (e : ReferenceEntries) (bytes next : ℕ) : Type 0 where
  pub the : Reference
  pub is : o ≡ got the (drop next s)
  pub known : ReferenceKnown s at the e bytes next
  pub ahead : at < next
  pub within : next ≤ length s

abbrev pub ReferenceAs : List ℕ → ℕ → Ans Reference → ReferenceAt → Type 0
ReferenceAs s at o (reference.Got e bytes next) = ReferenceGot s at o e bytes next
ReferenceAs s at o reference.No = o ≡ no
ReferenceAs s at o reference.Cut = o ≡ cut

pub record References (s : List ℕ) (at : ℕ) (o : Ans Reference) (r : ReferenceAt) : Type 0 where
  pub is : ReferenceAs s at o r
