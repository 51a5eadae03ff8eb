-- `read_record_head::header_texts` meets its contract. Assumes nothing.
use Rattle.read_record_head.proofs.header_texts.Goals as goal

pub returns : goal.returns
returns c =
    let may-length = c.may_length.ensures in
    let may-length2 = c.may_length-2.ensures in
    let may-length3 = c.may_length-3.ensures in
    let may-length4 = c.may_length-4.ensures in
    let entry_at = c.entry_at.ensures in
    let entry-at2 = c.entry_at-2.ensures in
    let entry-at3 = c.entry_at-3.ensures in
    let entry-at4 = c.entry_at-4.ensures in
    let entry-at5 = c.entry_at-5.ensures in
    simp (entry_at, entry-at2, entry-at3, entry-at4, entry-at5, may-length, may-length2, may-length3, may-length4, c.may_length-5.ensures)
