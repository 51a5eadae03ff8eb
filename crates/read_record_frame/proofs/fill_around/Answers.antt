-- `read_record_frame::fill_around` meets its contract. Assumes nothing.
use Rattle.std.proofs.Common.{rules}
use Rattle.read_record_frame.proofs.Laws.{around, around_filled}
use Rattle.read_record_frame.proofs.fill_around.Goals as goal

pub overflow_add-place : goal.overflow_add-place
overflow_add-place c = search (around, rules)

pub put_contig-requires : goal.put_contig-requires
put_contig-requires c = search (around, rules)

pub put_contig_rows-requires : goal.put_contig_rows-requires
put_contig_rows-requires c = search (around, rules)

pub put_letters-requires : goal.put_letters-requires
put_letters-requires c = search (around, rules)

pub returns : goal.returns
returns c =
    let late = c in
    let pre = late.requires in
    let fill-header = late.fill_header-place.ensures in
    let put-contig = c.put_contig.ensures in
    let put-contig-rows = c.put_contig_rows.ensures in
    let put-letters = c.put_letters.ensures in
    around_filled _ _ pre _ _ _ _ _ _ _ fill-header _ _ _ _ _ _ _ put-contig put-contig-rows put-letters
