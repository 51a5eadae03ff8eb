-- Lines, as document 02's ticket 2 counts them: "the line, counted from 1 at the given place, and the offset in the slice of its first byte".
use Rattle.std.specs.Prelude.{ℕ, zero, suc, ◌+◌, ◌-◌, true, false, List, [], ◌∷◌, length, take, drop, eqb}
use Rattle.spec_lines.specs.declared.Spot.{Spot}

-- how many lines end in these bytes: LF ends one, alone or after CR, and nothing else does
unfoldable pub feeds : List ℕ → ℕ
feeds [] = 0
feeds (b ∷ s) = elim (eqb b 10) [ true ↦ suc (feeds s) | false ↦ feeds s ]

-- how many bytes stand up to the last LF and with it: none where there is no LF
unfoldable pub line_start : List ℕ → ℕ
line_start [] = 0
line_start (b ∷ s) = elim (line_start s) [ suc n ↦ suc (suc n) | zero ↦ elim (eqb b 10) [ true ↦ 1 | false ↦ 0 ] ]

-- what stands in s before its end t
abbrev pub before : List ℕ → List ℕ → List ℕ
before s t = take (length s - length t) s

-- the line that t begins in, where t is an end of what stands in s from the place `at` on
unfoldable pub spot_of : List ℕ → ℕ → List ℕ → Spot
spot_of s at t = record { line = suc (feeds (before (drop at s) t)); offset = at + line_start (before (drop at s) t) }

-- no line is told
abbrev pub nowhere : Spot
nowhere = record { line = 0; offset = 0 }
