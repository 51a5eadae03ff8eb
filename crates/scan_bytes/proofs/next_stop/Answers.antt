-- The goals of `next_stop` that are answered by hand; what its loop keeps, and what falls, is in Invariants.antt.
use Rattle.std.proofs.Common.{◌-◌, ◌∙◌, arith, rules}
use Rattle.scan_bytes.specs.Places.{line_stop}
use borrow.Author.Tests.{not-false}
use Rattle.scan_bytes.proofs.Scan.{scanning, scanned_on}
use Rattle.scan_bytes.proofs.Scan.{scanning}
use Rattle.std.proofs.lemmas.Bool.{not_from_true}
use Rattle.scan_bytes.proofs.next_stop.Goals as goal

pub loop-i-init : goal.loop-i-init
loop-i-init c = search (scanning, rules)

pub overflow_sub-s : goal.overflow_sub-s
overflow_sub-s c = search (scanning, rules)

pub eight_inside-requires : goal.eight_inside-requires
eight_inside-requires c = search (scanning, rules)

pub near_stop-requires : goal.near_stop-requires
near_stop-requires c = search (scanning, rules)

pub returns-then-not-eight_inside : goal.returns-then-not-eight_inside
returns-then-not-eight_inside c = scanned_on line_stop _ _ c.loop-i.i _ c.loop-i.invariant.0 c.loop-i.invariant.2 c.near_stop.ensures

pub overflow_add-i : goal.overflow_add-i
overflow_add-i c = search (scanning, rules)

pub loop-i-smaller : goal.loop-i-smaller
loop-i-smaller c = search (scanning, rules)

pub loop-i-preserved : goal.loop-i-preserved
loop-i-preserved c =
    (omega arith, omega arith, c.loop-i.invariant.2 ∙ c.eight_inside.ensures.go (not-false _ (not_from_true _ c.if-not-eight_inside.false)))

pub near_stop-requires-2 : goal.near_stop-requires-2
near_stop-requires-2 c = search (scanning, rules)

pub returns : goal.returns
returns c = scanned_on line_stop _ _ c.loop-i.i _ c.loop-i.invariant.0 c.loop-i.invariant.2 c.near_stop-2.ensures
