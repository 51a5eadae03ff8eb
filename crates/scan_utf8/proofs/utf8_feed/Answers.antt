-- `scan_utf8::utf8_feed` meets its contract. Assumes nothing.
use Rattle.scan_utf8.proofs.Chars.{step_ran}
use Rattle.scan_utf8.proofs.utf8_feed.Goals as goal

pub returns : goal.returns
returns c = step_ran _ _ _ c.step.ensures
