-- Reading, the letters: `origin_tag` of misc.rs, `parse_seq_data` of stream_parser.rs.
use Rattle.std.specs.Prelude.{ℕ, Bool, true, false, ◌||◌, List, [], ◌∷◌, eqb}
use Rattle.spec_format.specs.Bytes.{bytes, letter, digit, not_blank}
use Rattle.spec_format.specs.Readers.{Ans, bind, or_else, tag, until, spaces1, line, line_end, utf8_of}

-- `origin_tag`: "the word and spaces or tabs; or a header text", dropped, which "is that line alone" (ticket 5, departure 7)
unfoldable pub origin_tag : List ℕ → Ans (List ℕ)
origin_tag s =
    bind (tag (bytes "ORIGIN") s) λ _ s. or_else (bind (until not_blank s) λ _ s. line_end s) (bind (spaces1 s) λ _ s. utf8_of (line s))

-- where the letters end: at a `/`, at the input's end, or at a byte that cannot stand there; and what stands from there on
pub data Letters : Type 0 where
  at_slash : List ℕ → List ℕ → Letters
  at_end : List ℕ → Letters
  bad_byte : List ℕ → Letters

abbrev pub keep : ℕ → Letters → Letters
keep b (at_slash l r) = at_slash (b ∷ l) r
keep b (at_end l) = at_end (b ∷ l)
keep b (bad_byte r) = bad_byte r

-- digits, spaces, CR and LF
abbrev pub skipped : ℕ → Bool
skipped b = digit b || (eqb b 32 || (eqb b 13 || eqb b 10))

-- "Letters are kept, digits and blanks skipped, `/` ends"
unfoldable pub letters : List ℕ → Letters
letters [] = at_end []
letters (b ∷ s) = elim (letter b) [ true ↦ keep b (letters s) | false ↦ elim (eqb b 47) [ true ↦ at_slash [] (b ∷ s) | false ↦ elim (skipped b) [ true ↦ letters s | false ↦ bad_byte (b ∷ s) ] ] ]
