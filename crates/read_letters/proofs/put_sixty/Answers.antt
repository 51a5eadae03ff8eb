-- `read_letters::put_sixty` meets its contract. Assumes nothing.
use Rattle.base_pen.specs.Pen.{writes_append}
use Rattle.read_letters.proofs.put_sixty.Goals as goal

pub returns-then-room-place-ge60 : goal.returns-then-room-place-ge60
returns-then-room-place-ge60 c = c.copy_sixty.ensures

pub returns : goal.returns
returns c = writes_append c.put_thirty-next.ensures c.put_thirty.ensures
