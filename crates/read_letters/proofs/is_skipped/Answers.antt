-- `read_letters::is_skipped` meets its contract. Assumes nothing.
use Rattle.std.proofs.Common.{◌-◌}
use Rattle.read_letters.proofs.is_skipped.Goals as goal

pub returns : goal.returns
returns c = rw (c.either-3.ensures, c.is_digit.ensures, c.either-2.ensures, c.either.ensures)
