-- `read_letters::copy_thirty` meets its contract. Assumes nothing.
use Rattle.std.proofs.Common.{arith}
use Rattle.base_pen.specs.Pen.{writes_append}
use Rattle.read_letters.proofs.copy_thirty.Goals as goal

pub returns : goal.returns
returns c =
    (writes_append c.copy_ten-a.ensures.0 (writes_append c.copy_ten-b.ensures.0 c.copy_ten.ensures.0), omega arith)
