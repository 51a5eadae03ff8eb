-- `write_origin::number_of` meets its contract.
use Rattle.write_origin.specs.Number.{number_is}
use Rattle.write_origin.proofs.number_of.Goals as goal

pub returns : goal.returns
returns c =
    let c3 = c in
    let c4 = c3 in
    let c5 = c4 in
    let c6 = c5 in
    let c7 = c6 in
    let c8 = c7 in
    simp (c7.column.ensures, c6.column-2.ensures, c5.column-3.ensures, c4.column-4.ensures, c3.column-5.ensures, c.column-6.ensures, c.column-7.ensures, c.column-8.ensures) (number_is _ c8.requires.0 c8.requires.1)
