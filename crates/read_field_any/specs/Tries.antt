-- The header's fields from one word on, in the order in which they are tried: each is the end of the next, and all of them are `header_field`.
use Rattle.std.specs.Prelude.{ℕ, ◌≡◌, refl, List}
use Rattle.spec_format.specs.Bytes.{bytes}
use Rattle.spec_format.specs.Readers.{Ans, mapped, or_else}
use Rattle.spec_format.specs.Header.{Field, dropped, source_of, reference_of, entry, source, reference, ignored_line, header_field}

unfoldable pub from_comment : List ℕ → Ans Field
from_comment s = or_else (entry (bytes "COMMENT") s) (mapped (λ l. dropped) (ignored_line s))

unfoldable pub from_source : List ℕ → Ans Field
from_source s = or_else (mapped source_of (source s)) (or_else (mapped reference_of (reference s)) (from_comment s))

unfoldable pub from_dblink : List ℕ → Ans Field
from_dblink s = or_else (entry (bytes "DBLINK") s) (or_else (entry (bytes "KEYWORDS") s) (from_source s))

unfoldable pub from_accession : List ℕ → Ans Field
from_accession s = or_else (entry (bytes "ACCESSION") s) (or_else (entry (bytes "VERSION") s) (from_dblink s))

pub all_tried : (s : List ℕ) → header_field s ≡ or_else (entry (bytes "DEFINITION") s) (from_accession s)
unfolding header_field from_accession from_dblink from_source from_comment
all_tried s = refl
