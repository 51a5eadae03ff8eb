-- Four numbers and four behind them.
use Rattle.base_pen.specs.Pen.{writes_append}
use Rattle.test_rows.proofs.put_row.Goals as goal

pub returns : goal.returns
returns c = writes_append c.put_all-next.ensures c.put_all.ensures
