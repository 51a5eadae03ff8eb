-- `read_feature_names::header_words` meets its contract. Assumes nothing.
use Rattle.std.proofs.Common.{le_trans, ◌-◌}
use Rattle.scan_bytes.specs.Sequence.{step_no, step_cut, step_is, step_places}
use Rattle.read_feature_names.proofs.Heading.{emptied_from}
use Rattle.read_feature_names.proofs.header_words.Goals as goal

pub line_end-requires : goal.line_end-requires
line_end-requires c = (step_places c.tag.ensures c.in-Got.is).1

pub returns-in-No : goal.returns-in-No
returns-in-No c = record { is = step_no _ _ _ _ _ c.tag.ensures c.in-No.is; place = tt }

pub returns-in-Cut : goal.returns-in-Cut
returns-in-Cut c = record { is = step_cut _ _ _ _ _ c.tag.ensures c.in-Cut.is; place = tt }

pub returns-in-Got : goal.returns-in-Got
returns-in-Got c =
    let c2 = c in
    let c4 = c2 in
    let c7 = c4 in
    let w = step_places c4.tag.ensures c2.in-Got.is in rw (step_is c4.tag.ensures c2.in-Got.is) (emptied_from _ _ _ _ _ (le_trans c7.requires.0 w.0) c.line_end.ensures)
