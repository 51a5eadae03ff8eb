-- `read_location_row::put_seven` meets its contract. Assumes nothing.
use Rattle.read_location_row.specs.Rows.{row_put}
use Rattle.read_location_row.proofs.put_seven.Goals as goal

pub returns : goal.returns
returns c =
    let p₇ = c in
    let p₆ = p₇ in
    let p₅ = p₆ in
    let p₄ = p₅ in
    let p₃ = p₄ in
    let p₂ = p₃ in
    let p₁ = p₂ in
    row_put _ _ p₁.requires p₁.put.ensures p₂.put-2.ensures p₃.put-3.ensures p₄.put-4.ensures p₅.put-5.ensures
    p₆.put-6.ensures p₇.put-7.ensures
