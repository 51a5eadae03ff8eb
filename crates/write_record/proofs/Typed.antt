-- What the type of a LOCUS length says: it has 32 bits.
use Rattle.std.specs.Prelude.{Option, Some, None, ℕ}
use mathlib.Core.List.{List}
use mir.Val.{Val}
use denote.Builtin.{u32}
use denote.Laws.{Is}
use Rattle.std.specs.contracts.option.Option as option
use Rattle.spec_contracts.specs.Writes.{LengthFits}

pub length_fits_lem : (l : Option ℕ) (vs : List Val) → Is (option.the_row u32) l vs → LengthFits l
length_fits_lem None vs p = tt
length_fits_lem (Some n) vs p = p.1.1.1.1.0.1
