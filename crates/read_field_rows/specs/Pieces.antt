-- The pieces of a header's references and comments, by the definitions and as the code finds them.
use Rattle.std.specs.Prelude.{ℕ, Bool, true, false, List, [], ◌∷◌, ◌++◌}
use Rattle.spec_format.specs.Bytes.{May, absent, is, bytes}
use Rattle.spec_format.specs.Header as format
use Rattle.spec_format.specs.Header.{text_in, reference_in}
use Rattle.spec_format.specs.Rooms.{Piece, reference_pieces, comment_pieces}
use Rattle.read_field_any.specs.declared.Field.{Field}
use Rattle.read_field_any.specs.declared.Field.TheVariants as field
use Rattle.read_field_all.specs.Notes.{entry_in}
use Rattle.read_field_row.specs.Pieces.{reference_of, comment_found, Ready, ReferenceReady}

-- ---- by the definitions

-- the pieces of all that g finds
module _ {A : Type 0} (g : format.Field → May A) (f : A → List Piece) where
  abbrev pub one_pieces : May A → List Piece
  one_pieces absent = []
  one_pieces (is a) = f a

  unfoldable pub all_pieces : List format.Field → List Piece
  all_pieces [] = []
  all_pieces (x ∷ xs) = one_pieces (g x) ++ all_pieces xs

-- of comments, or else of references
abbrev pub wanted_in : Bool → format.Field → List Piece
wanted_in true x = one_pieces (text_in (bytes "COMMENT")) comment_pieces (text_in (bytes "COMMENT") x)
wanted_in false x = one_pieces reference_in reference_pieces (reference_in x)

abbrev pub wanted : Bool → List format.Field → List Piece
wanted true fs = all_pieces (text_in (bytes "COMMENT")) comment_pieces fs
wanted false fs = all_pieces reference_in reference_pieces fs

-- ---- as the code finds them

abbrev pub reference_found : List ℕ → Field → List Piece
reference_found s (field.Definition e) = []
reference_found s (field.Accession e) = []
reference_found s (field.Version e) = []
reference_found s (field.Dblink e) = []
reference_found s (field.Keywords e) = []
reference_found s (field.Source text organism) = []
reference_found s (field.Reference entries size) = reference_pieces (reference_of s entries)
reference_found s (field.Comment e) = []
reference_found s field.Dropped = []

abbrev pub found_in : List ℕ → Bool → Field → List Piece
found_in s true f = comment_found s (entry_in 5 f)
found_in s false f = reference_found s f

abbrev pub FieldReady : List ℕ → Field → Type 0
FieldReady s (field.Definition e) = Unit
FieldReady s (field.Accession e) = Unit
FieldReady s (field.Version e) = Unit
FieldReady s (field.Dblink e) = Unit
FieldReady s (field.Keywords e) = Unit
FieldReady s (field.Source text organism) = Unit
FieldReady s (field.Reference entries size) = ReferenceReady s entries
FieldReady s (field.Comment e) = Ready s true e
FieldReady s field.Dropped = Unit
