-- `make_located`: kind, location and qualifiers one after the other are the feature.
use Rattle.std.proofs.Common.{arith}
use Rattle.read_feature_row.proofs.Laws.{count_fits, rows_fit, located_made}
use Rattle.read_feature_row.proofs.make_located.Goals as goal

pub overflow_sub-row : goal.overflow_sub-row
overflow_sub-row c = omega (arith, c.requires.1.kind)

pub overflow_add-next : goal.overflow_add-next
overflow_add-next c = let start = c in omega (arith, start.requires.0.next)

pub overflow_add-next-2 : goal.overflow_add-next-2
overflow_add-next-2 c =
    let start = c in
    let put-qualifiers = c.put_qualifiers-run.ensures in
    omega (arith, start.well_formed, start.ranges, count_fits _ _ _ _ _ _ _ _ start.requires.0 start.requires.1 put-qualifiers)

pub overflow_add-next-3 : goal.overflow_add-next-3
overflow_add-next-3 c =
    let start = c in
    omega (arith, start.well_formed, start.ranges, rows_fit _ _ _ _ _ _ _ _ start.requires.0 start.requires.1)

pub returns : goal.returns
returns c =
    let pre = c.requires in
    let put-part = c.put_all-start.ensures in
    let put-text = c.put_text-stop.ensures in
    let put-qualifiers = c.put_qualifiers-run.ensures in
    located_made _ _ _ _ _ _ _ _ pre.0 pre.1 _ _ _ _ _ _ _ _ _ put-part put-text put-qualifiers
