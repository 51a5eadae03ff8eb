-- `read_field_entry::found_gap` meets its contract. Assumes nothing.
use Rattle.std.proofs.Common.{rules}
use Rattle.scan_bytes.specs.Sequence.{text_places}
use Rattle.read_field_entry.specs.Entries.{gapped}
use Rattle.read_field_entry.proofs.Finding.{gap_no, gap_cut, gap_got, gap_length}
use Rattle.read_field_entry.proofs.found_gap.Goals as goal

pub overflow_sub-d : goal.overflow_sub-d
overflow_sub-d c = let p = text_places c.spaces1.ensures c.in-Got.is in search rules

pub overflow_add-indent : goal.overflow_add-indent
overflow_add-indent c = let p = text_places c.spaces1.ensures c.in-Got.is in search rules

pub overflow_add-indent-in-Got : goal.overflow_add-indent-in-Got
overflow_add-indent-in-Got c = let p = text_places c.spaces1.ensures c.in-Got.is in search rules

pub found_text-requires : goal.found_text-requires
found_text-requires c = let p = text_places c.spaces1.ensures c.in-Got.is in search rules

pub returns-in-No : goal.returns-in-No
unfolding gapped
returns-in-No c = search (gap_no, gap_cut, rules)

pub returns-in-Cut : goal.returns-in-Cut
unfolding gapped
returns-in-Cut c = search (gap_no, gap_cut, rules)

pub returns-in-Got : goal.returns-in-Got
unfolding gapped
returns-in-Got c =
    gap_got _ _ _ _ _ _ _ _ c.spaces1.ensures c.in-Got.is
    (rw (gap_length c.args.s.now c.args.at _ _ _ c.spaces1.ensures c.in-Got.is) c.found_text.ensures)
