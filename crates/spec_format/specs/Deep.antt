-- Number 14 (document 02, ticket 1): "where a seventeenth opens with no fault before it, in file order". It is asked of the text so far, whatever stands after it.
use Rattle.std.specs.Prelude.{ℕ, ◌+◌, Bool, true, false, ◌||◌, not, List, ◌++◌, length, eqb}
use Rattle.spec_format.specs.Bytes.{pick, bytes, spaces, concat}
use Rattle.spec_format.specs.Readers.{Ans, got, no, cut, bind, tag, spaces1, line_end, Turn, more, members}
use Rattle.spec_format.specs.Location.{run, past, reading, is_deep}
use Rattle.spec_format.specs.Features.{not_slash, feature_kind}

-- neither CR nor LF
abbrev pub in_line : ℕ → Bool
in_line b = not (eqb b 13 || eqb b 10)

-- the start of a further line: the indent, and in a feature any byte but `/`
abbrev pub further_start : Bool → ℕ → List ℕ → Ans Unit
further_start contig indent s = bind (tag (spaces indent) s) λ _ r. pick contig (got tt r) (not_slash r)

-- from the end of a line over the next one, up to its end
abbrev pub line_on : Bool → ℕ → List ℕ → Ans (Turn (List ℕ))
line_on contig indent s = bind (line_end s) λ _ s. bind (further_start contig indent s) λ _ s. got (more (run in_line s)) (past in_line s)

-- the text so far: from the location's first byte over its lines, up to a line that is none of them, a stray CR, or the slice's end
unfoldable pub so_far : Bool → ℕ → List ℕ → List ℕ
so_far contig indent s = run in_line s ++ concat (members (line_on contig indent) (past in_line s))

abbrev pub deep_from : Bool → ℕ → List ℕ → Ans Bool
deep_from contig indent s = got (is_deep (reading contig (so_far contig indent s))) s

abbrev pub asked : Ans Bool → Bool
asked (got b s) = b
asked no = false
asked cut = false

-- a feature whose location is too deep stands here: spaces, kind, spaces, as in `feature`
unfoldable pub deep_feature : List ℕ → Bool
deep_feature s =
    asked (bind (spaces1 s) λ before s. bind (feature_kind s) λ kind s. bind (spaces1 s) λ after s.
    deep_from false (length before + length kind + length after) s)

-- a CONTIG that is too deep
unfoldable pub deep_contig : List ℕ → Bool
deep_contig s = asked (bind (tag (bytes "CONTIG") s) λ _ s. bind (spaces1 s) λ gap s. deep_from true (length gap + length (bytes "CONTIG")) s)
