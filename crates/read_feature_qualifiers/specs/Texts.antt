-- The texts of qualifiers, spelled out.
use Rattle.std.specs.Prelude.{ℕ, ◌≡◌, refl, List, [], ◌∷◌, ◌++◌}
use Rattle.std.proofs.Common.{ap, append-nil}
use Rattle.spec_format.specs.Bytes.{absent, is}
use Rattle.spec_format.specs.Table.{Qualifier}
use Rattle.spec_format.specs.Rooms.{pieces_text, qualifier_pieces, texts_of}

pub absent_text : (k : List ℕ) → pieces_text (qualifier_pieces (record { key = k; value = absent })) ≡ k
unfolding pieces_text
absent_text k = append-nil k

pub with_text : (k v : List ℕ) → pieces_text (qualifier_pieces (record { key = k; value = is v })) ≡ k ++ v
unfolding pieces_text
with_text k v = ap (λ (l : List ℕ). k ++ l) (append-nil v)

pub texts_more : (q : Qualifier) (qs : List Qualifier) → texts_of qualifier_pieces (q ∷ qs) ≡ pieces_text (qualifier_pieces q) ++ texts_of qualifier_pieces qs
unfolding texts_of
texts_more q qs = refl

pub texts_none : texts_of qualifier_pieces [] ≡ []
unfolding texts_of
texts_none = refl
