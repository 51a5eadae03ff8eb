-- What is known where a feature's first line is put.
use Rattle.std.specs.Prelude.{ℕ, ◌+◌, ◌≤◌, ◌<◌, List, length}
use Rattle.judge_rooms.specs.Facts.{RowText}
use Rattle.spec_format.specs.Record.{most}

pub record FirstLineKnown (texts rows : List ℕ) (at : ℕ) : Type 0 where
  pub small : length texts ≤ most
  pub row : at + 5 < length rows
  pub kind : RowText texts rows at
  pub location : RowText texts rows (at + 2)
