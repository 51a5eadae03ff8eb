-- One way after the other, as `lead_of_four` tries them.
use Rattle.std.proofs.Common.{eq-eqb, ne_eqb}
use Rattle.scan_utf8.proofs.Chars.{pick_true, pick_false, pick_called, pick_called_not}
use Rattle.scan_utf8.proofs.lead_of_four.Goals as goal

pub returns-then-b-eq240 : goal.returns-then-b-eq240
returns-then-b-eq240 c = pick_true _ _ _ _ (eq-eqb _ _ c.if-b-eq240.true) c.state_of.ensures

pub returns-then-is_between : goal.returns-then-is_between
returns-then-is_between c =
    pick_false _ _ _ _ (ne_eqb _ _ c.if-b-eq240.false) (pick_called _ _ _ _ _ c.is_between.ensures c.if-is_between.true c.state_of-then-is_between.ensures)

pub returns-then-b-eq244 : goal.returns-then-b-eq244
returns-then-b-eq244 c =
    pick_false _ _ _ _ (ne_eqb _ _ c.if-b-eq240.false) (pick_called_not _ _ _ _ _ c.is_between.ensures c.if-is_between.false (pick_true _ _ _ _ (eq-eqb _ _ c.if-b-eq244.true) c.state_of-then-b-eq244.ensures))

pub returns : goal.returns
returns c =
    pick_false _ _ _ _ (ne_eqb _ _ c.if-b-eq240.false) (pick_called_not _ _ _ _ _ c.is_between.ensures c.if-is_between.false (pick_false _ _ _ _ (ne_eqb _ _ c.if-b-eq244.false) c.state_of-2.ensures))
