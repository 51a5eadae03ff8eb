-- `scan_bytes::line_end` meets its contract. Assumes nothing.
use Rattle.std.proofs.Common.{rules}
use Rattle.scan_bytes.proofs.Scan.{ending}
use Rattle.scan_bytes.proofs.line_end.Goals as goal

pub returns-then-s-at : goal.returns-then-s-at
returns-then-s-at c = search (ending, rules)

pub returns-then-s-at-eq10 : goal.returns-then-s-at-eq10
returns-then-s-at-eq10 c = search (ending, rules)

pub returns-then-s-at-ne13 : goal.returns-then-s-at-ne13
returns-then-s-at-ne13 c = search (ending, rules)

pub returns-then-s-n : goal.returns-then-s-n
returns-then-s-n c = search (ending, rules)

pub returns-then-s-n-eq10 : goal.returns-then-s-n-eq10
returns-then-s-n-eq10 c = search (ending, rules)

pub returns : goal.returns
returns c = search (ending, rules)
