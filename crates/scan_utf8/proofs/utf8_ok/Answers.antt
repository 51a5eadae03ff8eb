-- `scan_utf8::utf8_ok` meets its contract. Assumes nothing.
use Rattle.std.proofs.Common.{sym, ◌∙◌}
use Rattle.scan_utf8.specs.States.{ran_utf8}
use Rattle.scan_utf8.proofs.utf8_ok.Goals as goal

pub returns : goal.returns
returns c = c.utf8_ends.ensures ∙ sym (ran_utf8 _ _ (rw c.started.ensures at c.utf8_on-u.ensures))
