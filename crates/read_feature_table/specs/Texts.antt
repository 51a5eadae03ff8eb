-- The texts of a feature, spelled out.
use Rattle.std.specs.Prelude.{ℕ, ◌+◌, ◌≡◌, List, ◌++◌, length}
use Rattle.std.proofs.Common.{ap, ◌∙◌, append-nil, arith, length-append}
use Rattle.spec_format.specs.Table.{Feature}
use Rattle.spec_format.specs.Rooms.{pieces_text, feature_pieces, qualifier_pieces, texts_of, feature_text}

pub head_text_lem : (f : Feature) → pieces_text (feature_pieces f) ≡ f.kind ++ f.location
unfolding pieces_text
head_text_lem f = ap (λ (l : List ℕ). f.kind ++ l) (append-nil f.location)

pub whole_text : (f : Feature) → feature_text f ≡ f.kind ++ f.location ++ texts_of qualifier_pieces f.qualifiers
unfolding feature_text
whole_text f = ap (λ (l : List ℕ). l ++ texts_of qualifier_pieces f.qualifiers) (head_text_lem f)

pub whole_length : (f : Feature) → length (feature_text f) ≡ length f.kind + length f.location + length (texts_of qualifier_pieces f.qualifiers)
whole_length f =
    ap length (whole_text f) ∙ omega (arith, length-append (f.kind ++ f.location) (texts_of qualifier_pieces f.qualifiers), length-append f.kind f.location)
