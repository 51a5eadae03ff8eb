-- A room of more rows is refused; else it is what was read through rows.
use Rattle.std.proofs.Common.{arith}
use Rattle.test_rows.proofs.read.Goals as goal

pub returns-then-n-gt-MOST_ROWS : goal.returns-then-n-gt-MOST_ROWS
returns-then-n-gt-MOST_ROWS c = λ h. absurd (omega arith)

pub returns : goal.returns
returns c = λ h. c.read_lent.ensures
