-- The pieces of a reference or a comment, as the code finds its entries, and what is known of an entry whose text can be put.
use Rattle.std.specs.Prelude.{ℕ, ◌≤◌, ◌≡◌, Bool, true, false, List, [], ◌∷◌, length, drop}
use Rattle.spec_format.specs.Bytes.{May, absent, is}
use Rattle.spec_format.specs.Table.{Reference}
use Rattle.spec_format.specs.Header.{field_text}
use Rattle.spec_format.specs.Rooms.{Piece, always, perhaps, comment_pieces}
use Rattle.read_field_entry.specs.declared.Entry.{Entry}
use Rattle.read_field_text.specs.Texts as entry
use Rattle.read_field_text.specs.Texts.{Gets}
use Rattle.read_field_optional.specs.declared.MayEntry.{MayEntry}
use Rattle.read_field_optional.specs.declared.MayEntry.TheVariants as may
use Rattle.read_field_reference.specs.declared.ReferenceEntries.{ReferenceEntries}

abbrev pub entry_text : List ℕ → Bool → Entry → List ℕ
entry_text s keep e = entry.text_in (field_text e.columns keep (drop e.text s))

abbrev pub always_piece : List ℕ → Bool → Entry → Piece
always_piece s keep e = always (entry_text s keep e)

abbrev pub may_text : List ℕ → Bool → MayEntry → May (List ℕ)
may_text s keep may.Absent = absent
may_text s keep (may.Is e) = is (entry_text s keep e)

abbrev pub may_piece : List ℕ → Bool → MayEntry → Piece
may_piece s keep e = perhaps (may_text s keep e)

abbrev pub reference_of : List ℕ → ReferenceEntries → Reference
reference_of s e =
    record {
      text = entry_text s true e.text;
      authors = may_text s true e.authors;
      consrtm = may_text s true e.consrtm;
      title = entry_text s true e.title;
      journal = may_text s true e.journal;
      pubmed = may_text s false e.pubmed;
      remark = may_text s true e.remark;
    }

-- the pieces of a reference up to CONSRTM, and from TITLE on
abbrev pub front_pieces : Reference → List Piece
front_pieces r = always r.text ∷ perhaps r.authors ∷ perhaps r.consrtm ∷ []

abbrev pub back_pieces : Reference → List Piece
back_pieces r = always r.title ∷ perhaps r.journal ∷ perhaps r.pubmed ∷ perhaps r.remark ∷ []

abbrev pub comment_found : List ℕ → MayEntry → List Piece
comment_found s may.Absent = []
comment_found s (may.Is e) = comment_pieces (entry_text s true e)

-- the entry has a text, as long as it says
pub record Ready (s : List ℕ) (keep : Bool) (e : Entry) : Type 0 where
  pub within : e.text ≤ length s
  pub gets : Gets (field_text e.columns keep (drop e.text s))
  pub sized : e.length ≡ length (entry_text s keep e)
  pub small : e.length ≤ length s

abbrev pub MayReady : List ℕ → Bool → MayEntry → Type 0
MayReady s keep may.Absent = Unit
MayReady s keep (may.Is e) = Ready s keep e

pub record ReferenceReady (s : List ℕ) (e : ReferenceEntries) : Type 0 where
  pub text : Ready s true e.text
  pub authors : MayReady s true e.authors
  pub consrtm : MayReady s true e.consrtm
  pub title : Ready s true e.title
  pub journal : MayReady s true e.journal
  pub pubmed : MayReady s false e.pubmed
  pub remark : MayReady s true e.remark
