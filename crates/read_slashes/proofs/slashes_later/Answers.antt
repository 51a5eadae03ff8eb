-- The goals of `slashes_later` that are answered by hand; what its loop keeps, and what falls, is in Invariants.antt.
use Rattle.std.proofs.Common.{◌≡◌, ℕ, List, drop, subst, ◌∙◌}
use Rattle.scan_lines.specs.Reached.{Fed}
use Rattle.read_slashes.specs.Later.{Sought}
use Rattle.read_slashes.proofs.Laws.{later_on}
use Rattle.read_slashes.proofs.slashes_later.Goals as goal

pub loop-seen-preserved : goal.loop-seen-preserved
loop-seen-preserved c =
    let i = c.loop-seen.invariant in
    let p = c.loop-seen.reader.place in
    let r = c.next_feed.result in
    let m = c.next_feed.ensures.moved in
    let d : Fed c.args.s.now p r = subst (λ (x : List ℕ). Fed x p r) i.0 c.next_feed.ensures.is in
    let e : c.rest.result.now ≡ drop r c.args.s.now = c.rest.ensures ∙ rw (m, i.0) in
    let w : Sought (drop r c.args.s.now) c.seen_in-seen.result = subst (λ (x : List ℕ). Sought x c.seen_in-seen.result) e c.seen_in-seen.ensures in
    rw m (i.0, later_on c.args.s.now c.args.at p r c.loop-seen.seen c.seen_in-seen.result i.1 c.loop-seen-test.true d w)
