-- One way after the other, as `lead_of` tries them.
use Rattle.std.proofs.Common.{lt-ltb, le-ltb, eq-eqb, ne_eqb}
use Rattle.scan_utf8.specs.States.{lead_of}
use Rattle.scan_utf8.proofs.Chars.{pick_true, pick_false, pick_called, pick_called_not}
use Rattle.scan_utf8.proofs.lead.Goals as goal

pub returns-then-b-lt128 : goal.returns-then-b-lt128
unfolding lead_of
returns-then-b-lt128 c = pick_true _ _ _ _ (lt-ltb _ _ c.if-b-lt128.true) c.state_of.ensures

pub returns-then-is_between : goal.returns-then-is_between
unfolding lead_of
returns-then-is_between c =
    pick_false _ _ _ _ (le-ltb _ _ c.if-b-lt128.false) (pick_called _ _ _ _ _ c.is_between.ensures c.if-is_between.true c.state_of-then-is_between.ensures)

pub returns-then-b-eq224 : goal.returns-then-b-eq224
unfolding lead_of
returns-then-b-eq224 c =
    pick_false _ _ _ _ (le-ltb _ _ c.if-b-lt128.false) (pick_called_not _ _ _ _ _ c.is_between.ensures c.if-is_between.false (pick_true _ _ _ _ (eq-eqb _ _ c.if-b-eq224.true) c.state_of-then-b-eq224.ensures))

pub returns-then-b-eq237 : goal.returns-then-b-eq237
unfolding lead_of
returns-then-b-eq237 c =
    let c2 = c in
    let c4 = c2 in
    pick_false _ _ _ _ (le-ltb _ _ c4.if-b-lt128.false) (pick_called_not _ _ _ _ _ c4.is_between.ensures c2.if-is_between.false (pick_false _ _ _ _ (ne_eqb _ _ c2.if-b-eq224.false) (pick_true _ _ _ _ (eq-eqb _ _ c.if-b-eq237.true) c.state_of-then-b-eq237.ensures)))

pub returns-then-is_between-2 : goal.returns-then-is_between-2
unfolding lead_of
returns-then-is_between-2 c =
    let c2 = c in
    let c4 = c2 in
    let c6 = c4 in
    pick_false _ _ _ _ (le-ltb _ _ c6.if-b-lt128.false) (pick_called_not _ _ _ _ _ c6.is_between.ensures c4.if-is_between.false (pick_false _ _ _ _ (ne_eqb _ _ c4.if-b-eq224.false) (pick_false _ _ _ _ (ne_eqb _ _ c2.if-b-eq237.false) (pick_called _ _ _ _ _ c2.is_between-2.ensures c.if-is_between-2.true c.state_of-then-is_between-2.ensures))))

pub returns : goal.returns
unfolding lead_of
returns c =
    let c2 = c in
    let c4 = c2 in
    let c6 = c4 in
    pick_false _ _ _ _ (le-ltb _ _ c6.if-b-lt128.false) (pick_called_not _ _ _ _ _ c6.is_between.ensures c4.if-is_between.false (pick_false _ _ _ _ (ne_eqb _ _ c4.if-b-eq224.false) (pick_false _ _ _ _ (ne_eqb _ _ c2.if-b-eq237.false) (pick_called_not _ _ _ _ _ c2.is_between-2.ensures c.if-is_between-2.false c.lead_of_four.ensures))))
