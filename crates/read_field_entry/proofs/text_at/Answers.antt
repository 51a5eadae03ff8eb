-- `read_field_entry::text_at` meets its contract. Assumes nothing.
use Rattle.std.proofs.Common.{rules}
use Rattle.scan_bytes.specs.Sequence.{line_places}
use Rattle.read_field_entry.proofs.Turns.{text_no, text_cut, text_got}
use Rattle.read_field_entry.proofs.text_at.Goals as goal

pub utf8_on-requires : goal.utf8_on-requires
utf8_on-requires c = let p = line_places c.line_at.ensures c.in-Got.is in search rules

pub overflow_sub-end : goal.overflow_sub-end
overflow_sub-end c = let p = line_places c.line_at.ensures c.in-Got.is in search rules

pub further_lines-requires : goal.further_lines-requires
further_lines-requires c = let p = line_places c.line_at.ensures c.in-Got.is in search rules

pub returns-in-No : goal.returns-in-No
returns-in-No c = search (text_no, text_cut, rules)

pub returns-in-Cut : goal.returns-in-Cut
returns-in-Cut c = search (text_no, text_cut, rules)

pub returns-in-Got : goal.returns-in-Got
returns-in-Got c =
    let c2 = c in
    let c4 = c2 in
    let c6 = c4 in
    let c8 = c6 in
    text_got c8.args.columns c8.args.keep c8.args.s.now c8.args.at _ c6.line_at.ensures _ _ _ _ c4.in-Got.is
    (rw c2.started.ensures at c.utf8_on.ensures) c.further_lines.ensures
