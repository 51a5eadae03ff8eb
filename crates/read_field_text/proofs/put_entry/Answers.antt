-- `read_field_text::put_entry` meets its contract. Assumes nothing.
use Rattle.std.proofs.Common.{rules}
use Rattle.scan_bytes.specs.Sequence.{line_places}
use Rattle.read_field_text.proofs.Putting.{never_no, never_cut, rest_gets, whole_put}
use Rattle.read_field_text.proofs.put_entry.Goals as goal

pub put_all-p-requires : goal.put_all-p-requires
put_all-p-requires c = let p = line_places c.line_at.ensures c.in-Got.is in search rules

pub put_further-requires : goal.put_further-requires
put_further-requires c =
    let c6 = c in
    let c8 = c6 in
    let c11 = c8 in
    let p = line_places c8.line_at.ensures c6.in-Got.is in (p.2, rest_gets c11.args.columns c11.args.keep c11.args.s.now c11.args.text _ c8.line_at.ensures c11.requires.1 _ _ c6.in-Got.is)

pub returns-in-No : goal.returns-in-No
returns-in-No c =
    let c2 = c in
    let c5 = c2 in
    never_no c5.args.columns c5.args.keep c5.args.s.now c5.args.text _ c2.line_at.ensures c5.requires.1 c.in-No.is

pub returns-in-Cut : goal.returns-in-Cut
returns-in-Cut c =
    let c2 = c in
    let c5 = c2 in
    never_cut c5.args.columns c5.args.keep c5.args.s.now c5.args.text _ c2.line_at.ensures c5.requires.1 c.in-Cut.is

pub returns-in-Got : goal.returns-in-Got
returns-in-Got c =
    let c2 = c in
    let c6 = c2 in
    let c9 = c6 in
    let c11 = c9 in
    let c14 = c11 in
    whole_put c14.args.columns c14.args.keep c14.args.s.now c14.args.text _ c11.line_at.ensures c14.requires.1 _ _ c9.in-Got.is c6.put_all-p.ensures c2.put_further.ensures
