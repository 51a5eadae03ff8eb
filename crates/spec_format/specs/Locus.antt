-- Reading, the beginning: the lines before LOCUS (`skip_preamble` of misc.rs) and the LOCUS line (locus.rs, with document 01's own tokens).
use Rattle.std.specs.Prelude.{ℕ, zero, suc, ◌-◌, true, false, ◌&&◌, ◌||◌, List, [], ◌∷◌, length, take, drop, get_or, eqb, leb, Option, None}
use Rattle.spec_format.specs.Bytes.{pick, May, absent, is, bytes, some, starts, all, same, visible, digit, blank, not_blank, but, number}
use Rattle.spec_format.specs.Readers.{Ans, got, no, cut, bind, mapped, tag, until1, line, utf8_of, Turn, more, stop, end}
use Rattle.spec_format.specs.Dates.{made, is_date, months}
use Rattle.spec_format.specs.declared.Date.{Date}
use Rattle.spec_format.specs.Table.{Locus}

-- "Lines before one beginning `LOCUS` are skipped": a UTF-8 line more, or the line of LOCUS
abbrev pub skipping : List ℕ → Ans Unit → Ans (Turn (List ℕ))
skipping s (got u r) = got stop s
skipping s no = mapped more (utf8_of (line s))
skipping s cut = mapped more (utf8_of (line s))

abbrev pub preamble_turn : List ℕ → Ans (Turn (List ℕ))
preamble_turn s = skipping s (tag (bytes "LOCUS") s)

unfoldable pub preamble : List ℕ → Ans Unit
preamble s = end preamble_turn s

-- what stands between blanks
abbrev pub ahead : ℕ → List (List ℕ) → List (List ℕ)
ahead b [] = (b ∷ []) ∷ []
ahead b (t ∷ ts) = (b ∷ t) ∷ ts

unfoldable pub tokens : List ℕ → List (List ℕ)
tokens [] = []
tokens (b ∷ s) = elim (blank b) [ true ↦ tokens s | false ↦ elim (starts not_blank s) [ true ↦ ahead b (tokens s) | false ↦ (b ∷ []) ∷ tokens s ] ]

-- its place among the words, from 1; 0 if it is not there
abbrev pub place_in : List ℕ → List (List ℕ) → ℕ
place_in w [] = 0
place_in w (m ∷ ms) = elim (same w m) [ true ↦ 1 | false ↦ elim (place_in w ms) [ zero ↦ 0 | suc k ↦ suc (suc k) ] ]

-- "day of 1 or 2 digits, 1 to 31, `-`, JAN to DEC, `-`, four digits": the day, and the nine bytes after it
unfoldable pub date_of : List ℕ → List ℕ → Option Date
date_of d e =
    pick (leb (length d) 2 && (some d && (all digit d && (eqb (get_or e 0 0) 45 && (eqb (get_or e 4 0) 45 && all digit (drop 5 e))))))
    (made (number 0 d) (place_in (take 3 (drop 1 e)) months) (number 0 (drop 5 e))) None

unfoldable pub date_token : List ℕ → Option Date
date_token t = date_of (take (length t - 9) t) (drop (length t - 9) t)

-- "Any other LOCUS line keeps no name and no length: linear, no molecule type, no date, division UNK"
abbrev pub unknown : Locus
unknown = record { name = absent; length = absent; molecule = absent; circular = false; division = bytes "UNK"; date = None }

-- "name without `:`, length of 1 to 10 digits up to 4,294,967,295, `bp`, .. `linear` or `circular`, division, date"
unfoldable pub locus_from : List ℕ → List ℕ → List ℕ → May (List ℕ) → List ℕ → List ℕ → List ℕ → Locus
locus_from name count unit molecule topology division date =
    pick (all (but 58) name && (all digit count && (leb (length count) 10 && (leb (number 0 count) 4294967295 && (same unit (bytes "bp") &&
    ((same topology (bytes "linear") || same topology (bytes "circular")) && is_date (date_token date)))))))
    (record { name = is name; length = is (number 0 count); molecule = molecule; circular = same topology (bytes "circular"); division = division; date = date_token date })
    unknown

-- "six or seven tokens"; the molecule type may be missing
unfoldable pub locus_of : List (List ℕ) → Locus
locus_of ts =
    pick (eqb (length ts) 7) (locus_from (token 0) (token 1) (token 2) (is (token 3)) (token 4) (token 5) (token 6))
    (pick (eqb (length ts) 6) (locus_from (token 0) (token 1) (token 2) absent (token 3) (token 4) (token 5)) unknown)
  where
    token : ℕ → List ℕ
    token i = get_or ts i []

-- "All are bytes 33 to 126"
unfoldable pub locus_line : List ℕ → Locus
locus_line l = pick (all (all visible) (tokens l)) (locus_of (tokens l)) unknown

-- `locus`: the word, blanks, the rest of the line
unfoldable pub locus : List ℕ → Ans Locus
locus s = bind (tag (bytes "LOCUS") s) λ _ s. bind (until1 not_blank s) λ _ s. mapped locus_line (line s)
