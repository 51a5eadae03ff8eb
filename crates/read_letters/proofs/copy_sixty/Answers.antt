-- `read_letters::copy_sixty` meets its contract. Assumes nothing.
use Rattle.base_pen.specs.Pen.{writes_append}
use Rattle.read_letters.proofs.copy_sixty.Goals as goal

pub returns : goal.returns
returns c = writes_append c.copy_thirty-next.ensures.0 c.copy_thirty.ensures.0
