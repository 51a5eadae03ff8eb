-- A room of more rows is refused; else the rows are those of the room.
use Rattle.std.proofs.Common.{arith}
use Rattle.test_rows.proofs.write.Goals as goal

pub returns-then-n-gt-MOST_ROWS : goal.returns-then-n-gt-MOST_ROWS
returns-then-n-gt-MOST_ROWS c = λ h. absurd (omega arith)

pub returns : goal.returns
returns c = λ h. rw c.rows_of-rows.ensures at c.write_lent.ensures
