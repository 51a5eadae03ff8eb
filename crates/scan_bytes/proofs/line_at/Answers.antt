-- `scan_bytes::line_at` meets its contract. Assumes nothing.
use Rattle.std.proofs.Common.{rules}
use Rattle.scan_bytes.proofs.Scan.{lining}
use Rattle.scan_bytes.proofs.line_at.Goals as goal

pub returns-then-s-e : goal.returns-then-s-e
returns-then-s-e c = search (lining, rules)

pub returns-then-s-e-eq10 : goal.returns-then-s-e-eq10
returns-then-s-e-eq10 c = search (lining, rules)

pub returns-then-s-n : goal.returns-then-s-n
returns-then-s-n c = search (lining, rules)

pub returns-then-s-n-eq10 : goal.returns-then-s-n-eq10
returns-then-s-n-eq10 c = search (lining, rules)

pub returns : goal.returns
returns c = search (lining, rules)
