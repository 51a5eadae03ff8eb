-- `scan_utf8::utf8_line` meets its contract. Assumes nothing.
use Rattle.std.proofs.Common.{rules}
use Rattle.scan_bytes.specs.Sequence.{line_places}
use Rattle.scan_utf8.proofs.Tested.{tested}
use Rattle.scan_utf8.proofs.utf8_line.Goals as goal

pub returns-then-utf8_ok : goal.returns-then-utf8_ok
returns-then-utf8_ok c = search (tested, rules)

pub returns-in-No : goal.returns-in-No
returns-in-No c = search (tested, rules)

pub returns-in-Cut : goal.returns-in-Cut
returns-in-Cut c = search (tested, rules)

pub returns-else-utf8_ok : goal.returns-else-utf8_ok
returns-else-utf8_ok c = search (tested, rules)
