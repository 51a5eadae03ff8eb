-- `read_location_row::stands_seven` meets its contract. Assumes nothing.
use Rattle.std.proofs.Common.{rules}
use Rattle.read_location_row.specs.Rows.{row_past, row_short, row_stands}
use Rattle.read_location_row.proofs.stands_seven.Goals as goal

pub returns-then-seen-at : goal.returns-then-seen-at
returns-then-seen-at c = search (row_past, rules)

pub returns-then-seen-at-lt7 : goal.returns-then-seen-at-lt7
returns-then-seen-at-lt7 c = search (row_short, rules)

pub returns : goal.returns
returns c =
    let b₁ = c in
    let some = b₁ in
    row_stands _ _ _ some.if-seen-at.false some.if-seen-at-lt7.false b₁.both.ensures c.both-2.ensures c.both-3.ensures
    c.both-4.ensures c.both-5.ensures c.both-6.ensures
