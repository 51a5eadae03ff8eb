-- The goals of `tag` that are answered by hand; what its loop keeps, and what falls, is in Invariants.antt.
use Rattle.std.proofs.Common.{◌-◌, rules}
use Rattle.scan_bytes.proofs.Scan.{tagging}
use Rattle.scan_bytes.proofs.tag.Goals as goal

pub loop-j-init : goal.loop-j-init
loop-j-init c = search (tagging, rules)

pub returns-then-s-i : goal.returns-then-s-i
returns-then-s-i c = search (tagging, rules)

pub bounds-s-i : goal.bounds-s-i
bounds-s-i c = search (tagging, rules)

pub bounds-word-j : goal.bounds-word-j
bounds-word-j c = search (tagging, rules)

pub returns-then-s-i-2 : goal.returns-then-s-i-2
returns-then-s-i-2 c = search (tagging, rules)

pub overflow_add-i : goal.overflow_add-i
overflow_add-i c = search (tagging, rules)

pub overflow_add-j : goal.overflow_add-j
overflow_add-j c = search (tagging, rules)

pub loop-j-smaller : goal.loop-j-smaller
loop-j-smaller c = search (tagging, rules)

pub loop-j-preserved : goal.loop-j-preserved
loop-j-preserved c = search (tagging, rules)

pub returns : goal.returns
returns c = search (tagging, rules)
