-- `scan_utf8::step` meets its contract. Assumes nothing.
use Rattle.std.proofs.Common.{rules}
use Rattle.scan_utf8.specs.States.{step_of}
use Rattle.scan_utf8.proofs.Chars.{picks}
use Rattle.scan_utf8.proofs.step.Goals as goal

pub returns-then-more-eq0 : goal.returns-then-more-eq0
unfolding step_of
returns-then-more-eq0 c = search (picks, rules) depth 12 fits 20000

pub returns-then-is_between : goal.returns-then-is_between
unfolding step_of
returns-then-is_between c = search (picks, rules) depth 12 fits 20000

pub returns : goal.returns
unfolding step_of
returns c = search (picks, rules) depth 12 fits 20000
