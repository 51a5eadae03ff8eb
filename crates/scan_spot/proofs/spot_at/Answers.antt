-- The goals of `spot_at` that are answered by hand; what its loop keeps, and what falls, is in Invariants.antt.
use Rattle.std.proofs.Common.{ℕ, List, ap, subst, Bor}
use Rattle.scan_lines.specs.Reached.{Fed}
use Rattle.scan_spot.proofs.Laws.{standing_first, arrived}
use Rattle.scan_spot.proofs.spot_at.Goals as goal

pub loop-sought-init : goal.loop-sought-init
loop-sought-init c =
    let r = c.reader_at-reader.ensures in (
      ap (λ (b : Bor (List ℕ)). b.now) r.0,
      rw (r.1, c.first_line-sought.ensures) (standing_first c.args.s.now c.args.at c.args.place c.requires.0 c.requires.1),
    )

pub past_feed-sought-requires : goal.past_feed-sought-requires
past_feed-sought-requires c =
    let i = c.loop-sought.invariant in
    let d : Fed c.args.s.now c.loop-sought.reader.place c.next_feed-next.result =
    subst (λ (x : List ℕ). Fed x c.loop-sought.reader.place c.next_feed-next.result) i.0 c.next_feed-next.ensures.is in
    arrived c.args.s.now c.args.at c.args.place c.loop-sought.reader.place c.next_feed-next.result c.loop-sought.sought i.1 c.loop-sought-test.true c.requires.1 d
