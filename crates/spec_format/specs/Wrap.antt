-- Writing, lines: `wrap_text` with `wrap_get_line` (departure 4), and `wrap_location`, of writer.rs. Lengths are in bytes, characters stay whole.
use Rattle.std.specs.Prelude.{ℕ, zero, suc, ◌+◌, ◌-◌, Bool, true, false, ◌&&◌, ◌||◌, List, [], ◌∷◌, ◌++◌, length, take, drop, eqb, ltb, leb}
use Rattle.spec_format.specs.Bytes.{spaces}

-- a line and the text after it; Over: the line is full, and no space stands in it where it could be broken
pub data Line : Type 0 where
  line_fits : List ℕ → List ℕ → Line
  line_over : List ℕ → List ℕ → Line

abbrev pub line_text : Line → List ℕ
line_text (line_fits l r) = l
line_text (line_over l r) = l

abbrev pub line_rest : Line → List ℕ
line_rest (line_fits l r) = r
line_rest (line_over l r) = r

abbrev pub put : ℕ → Line → Line
put b (line_fits l r) = line_fits (b ∷ l) r
put b (line_over l r) = line_over (b ∷ l) r

-- a space before the text s: where the line is over, it is broken here instead
abbrev pub put_space : List ℕ → Line → Line
put_space s (line_fits l r) = line_fits (32 ∷ l) r
put_space s (line_over l r) = line_fits [] s

-- a byte inside a character
abbrev pub inner : ℕ → Bool
inner b = ltb 127 b && ltb b 192

-- `wrap_get_line`, q: quotes are doubled, W: the width, and then the columns used and the text. "A quote that does not fit is itself the next
-- character for the break" (departure 4); the character that does not fit is left out if it is a space or LF
unfoldable pub fill : Bool → ℕ → ℕ → List ℕ → Line
fill q W used [] = line_fits [] []
fill q W used (b ∷ t) =
    elim (q && eqb b 34) [
      | true ↦ elim (ltb (suc used) W) [ true ↦ put 34 (put 34 (fill q W (suc (suc used)) t)) | false ↦ line_over [] (b ∷ t) ]
      | false ↦
          elim (eqb b 10) [
            | true ↦ line_fits [] t
            | false ↦
                elim (eqb b 32) [
                  | true ↦ elim (ltb used W) [ true ↦ put_space t (fill q W (suc used) t) | false ↦ line_fits [] t ]
                  | false ↦
                      elim (ltb used W || inner b) [ true ↦ put b (fill q W (suc used) t) | false ↦ line_over [] (b ∷ t) ]
                ]
          ]
    ]

-- "When line and indent reach W, the closing quote gets its own line"
unfoldable pub closing : Bool → ℕ → ℕ → ℕ → List ℕ
closing false W indent used = 10 ∷ []
closing true W indent used = elim (ltb used W) [ true ↦ 34 ∷ 10 ∷ [] | false ↦ 10 ∷ [] ++ spaces indent ++ 34 ∷ 10 ∷ [] ]

-- the lines after the first: how many there can be, the columns of the line before, the text
unfoldable pub lines_after : ℕ → Bool → ℕ → ℕ → ℕ → List ℕ → List ℕ
lines_after zero q W indent used t = closing q W indent used
lines_after (suc n) q W indent used [] = closing q W indent used
lines_after (suc n) q W indent used (b ∷ t) =
    10 ∷ [] ++ spaces indent ++ line_text (fill q W indent (b ∷ t)) ++
    lines_after n q W indent (indent + length (line_text (fill q W indent (b ∷ t)))) (line_rest (fill q W indent (b ∷ t)))

-- the text after its first indent and quote, which take `used` columns. Each line after the first takes a byte at least
unfoldable pub wrapped : Bool → ℕ → ℕ → ℕ → List ℕ → List ℕ
wrapped q W indent used t =
    line_text (fill q W used t) ++ lines_after (length t) q W indent (used + length (line_text (fill q W used t))) (line_rest (fill q W used t))

-- `wrap_text`
unfoldable pub wrap_text : ℕ → List ℕ → ℕ → Bool → List ℕ → List ℕ
wrap_text W first indent false t = first ++ wrapped false W indent (length first) t
wrap_text W first indent true t = first ++ 34 ∷ [] ++ wrapped true W indent (suc (length first)) t

-- ---- "Locations, CONTIG and the keys anticodon and transl_except break after the last comma that fits, else at W"

-- the place after the last comma among the first n bytes, or 0
unfoldable pub last_comma : ℕ → List ℕ → ℕ
last_comma zero t = 0
last_comma (suc n) [] = 0
last_comma (suc n) (b ∷ t) = elim (last_comma n t) [ suc k ↦ suc (suc k) | zero ↦ elim (eqb b 44) [ true ↦ 1 | false ↦ 0 ] ]

-- where a line of n columns is broken
unfoldable pub break_at : ℕ → List ℕ → ℕ
break_at n t = elim (last_comma n t) [ zero ↦ n | suc k ↦ suc k ]

-- the lines after the first indent, n at most; `used` columns are taken
unfoldable pub comma_lines : ℕ → ℕ → ℕ → ℕ → List ℕ → List ℕ
comma_lines zero W indent used t = t ++ 10 ∷ []
comma_lines (suc n) W indent used t = elim (leb (used + length t) W) [
  | true ↦ t ++ 10 ∷ []
  | false ↦
      take (break_at (W - used) t) t ++ 10 ∷ [] ++ spaces indent ++ comma_lines n W indent indent (drop (break_at (W - used) t) t)
]

-- `wrap_location`. Each line takes a byte at least
unfoldable pub wrap_location : ℕ → List ℕ → ℕ → List ℕ → List ℕ
wrap_location W first indent t = first ++ comma_lines (length t) W indent (length first) t
