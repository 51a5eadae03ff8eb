-- `api_head::put_locus` meets its contract.
use Rattle.base_pen.specs.Pen.{writes_append}
use Rattle.spec_contracts.specs.Numbers.{locus_numbers}
use Rattle.api_head.proofs.put_locus.Goals as goal

pub returns : goal.returns
unfolding locus_numbers
returns c =
    let c6 = c in
    let c10 = c6 in
    let c11 = c10 in
    let c15 = c11 in
    let c19 = c15 in
    let c23 = c19 in
    writes_append (writes_append (writes_append (writes_append (writes_append c23.put_text-a.ensures c19.put_length-b.ensures) c15.put_text-c.ensures) (rw c11.flag_of.ensures at c10.put-d.ensures)) c6.put_all-e.ensures) c.put_date.ensures
