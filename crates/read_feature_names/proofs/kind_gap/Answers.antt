-- `read_feature_names::kind_gap` meets its contract. Assumes nothing.
use Rattle.std.proofs.Common.{◌-◌, drop}
use Rattle.spec_format.specs.Bytes.{but}
use Rattle.spec_format.specs.Readers.{until}
use Rattle.read_feature_names.proofs.Heading.{gap_indent}
use Rattle.scan_bytes.specs.Sequence.{text_no, text_cut, text_got, text_some, text_places}
use Rattle.read_feature_names.proofs.kind_gap.Goals as goal

pub returns-in-No : goal.returns-in-No
returns-in-No c = record { is = text_no _ _ _ _ _ c.spaces1.ensures c.in-No.is; place = tt }

pub returns-in-Cut : goal.returns-in-Cut
returns-in-Cut c = record { is = text_cut _ _ _ _ _ c.spaces1.ensures c.in-Cut.is; place = tt }

pub returns-in-Got : goal.returns-in-Got
returns-in-Got c =
    let c3 = c in
    let c5 = c3 in
    let l = text_some (until (but 32) (drop c5.args.end c5.args.s.now)) c3.spaces1.ensures c.in-Got.is in
    let w = text_places c3.spaces1.ensures c.in-Got.is in
    record { is = text_got _ _ _ _ _ _ _ c3.spaces1.ensures c.in-Got.is (gap_indent _ _ _ _ _ c5.requires.0 c5.requires.1 w.0 w.1); place = (c5.requires.0, c5.requires.1, l, w.1) }
