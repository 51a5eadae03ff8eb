-- The goals of `header_at` that are answered by hand; what its loop keeps, and what falls, is in Invariants.antt.
use Rattle.std.proofs.Common.{arith}
use Rattle.read_field_all.proofs.Gathering.{gathering_start, gathering_no, gathering_cut, gathering_fits, gathering_more, gathering_less}
use Rattle.read_field_all.proofs.header_at.Goals as goal

pub loop-seen-init : goal.loop-seen-init
loop-seen-init c = gathering_start c.args.s.now _ _ c.requires c.nothing_seen-seen.ensures

pub header_field_at-requires : goal.header_field_at-requires
header_field_at-requires c = c.loop-seen.invariant.gathers.within

pub returns-in-No : goal.returns-in-No
returns-in-No c = gathering_no c.args.s.now _ _ c.loop-seen.invariant _ c.header_field_at.ensures c.in-No.is

pub returns-in-Cut : goal.returns-in-Cut
returns-in-Cut c = gathering_cut c.args.s.now _ _ c.loop-seen.invariant _ c.header_field_at.ensures c.in-Cut.is

pub noted-seen-requires : goal.noted-seen-requires
noted-seen-requires c =
    gathering_fits c.args.s.now _ _ c.loop-seen.invariant _ c.header_field_at.ensures _ _ c.in-Got.is (omega arith)

pub loop-seen-smaller : goal.loop-seen-smaller
loop-seen-smaller c =
    gathering_less c.args.s.now _ _ c.loop-seen.invariant _ c.header_field_at.ensures _ _ c.in-Got.is _ c.noted-seen.ensures

pub loop-seen-preserved : goal.loop-seen-preserved
loop-seen-preserved c =
    gathering_more c.args.s.now _ _ c.loop-seen.invariant _ c.header_field_at.ensures _ _ c.in-Got.is _ c.noted-seen.ensures
