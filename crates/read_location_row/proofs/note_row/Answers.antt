-- `read_location_row::note_row` meets its contract. Assumes nothing.
use Rattle.std.proofs.Common.{rules}
use Rattle.read_location_row.specs.Rows.{row_noted}
use Rattle.read_location_row.proofs.note_row.Goals as goal

pub returns : goal.returns
returns c = search (row_noted, rules)
