-- `scan_utf8::utf8_on` meets its contract. Assumes nothing.
use Rattle.scan_utf8.proofs.Chars.{ascii_ran}
use Rattle.scan_utf8.proofs.utf8_on.Goals as goal

pub returns-then-ascii_in : goal.returns-then-ascii_in
returns-then-ascii_in c = ascii_ran _ _ _ _ c.if-u-eq0.true c.ascii_in.ensures c.if-ascii_in.true c.started.ensures
