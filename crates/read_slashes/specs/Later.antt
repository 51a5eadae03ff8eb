-- What is seen where a line begins, while a later line beginning `//` is looked for.
use Rattle.std.specs.Prelude.{ℕ, ◌<◌, ◌≡◌, Bool, true, false, ◌&&◌, ◌||◌, List, [], ◌∷◌, length, eqb}
use Rattle.spec_format.specs.Record.{slashes_later}
use Rattle.read_slashes.specs.declared.Seen.{Seen}

-- `//` stands first
abbrev pub slashes_first : List ℕ → Bool
slashes_first [] = false
slashes_first (a ∷ []) = false
slashes_first (a ∷ b ∷ s) = eqb a 47 && eqb b 47

pub record NotHere (s : List ℕ) : Type 0 where
  pub none : slashes_first s ≡ false
  pub some : 0 < length s

-- a later line is still to be looked at, or it is clear whether `//` stands first or on a later line
pub record Sought (s : List ℕ) (t : Seen) : Type 0 where
  pub on : t.more ≡ true → NotHere s
  pub done : t.more ≡ false → t.found ≡ (slashes_first s || slashes_later s)
