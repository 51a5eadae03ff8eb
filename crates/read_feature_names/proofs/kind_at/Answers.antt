-- `read_feature_names::kind_at` meets its contract. Assumes nothing.
use Rattle.std.proofs.Common.{◌-◌, drop}
use Rattle.scan_bytes.specs.Parts.{length_part}
use Rattle.spec_format.specs.Bytes.{but}
use Rattle.spec_format.specs.Readers.{until}
use Rattle.scan_bytes.specs.Sequence.{text_no, text_cut, text_is, text_some, text_places}
use Rattle.read_feature_names.proofs.kind_at.Goals as goal

pub kind_from-requires : goal.kind_from-requires
kind_from-requires c =
    let c3 = c in
    let c5 = c3 in
    (text_some (until (but 32) (drop c5.args.at c5.args.s.now)) c3.spaces1.ensures c.in-Got.is, (text_places c3.spaces1.ensures c.in-Got.is).1)

pub returns-in-No : goal.returns-in-No
returns-in-No c = record { is = text_no _ _ _ _ _ c.spaces1.ensures c.in-No.is; place = tt }

pub returns-in-Cut : goal.returns-in-Cut
returns-in-Cut c = record { is = text_cut _ _ _ _ _ c.spaces1.ensures c.in-Cut.is; place = tt }

pub returns-in-Got : goal.returns-in-Got
returns-in-Got c =
    let w = text_places c.spaces1.ensures c.in-Got.is in rw (text_is c.spaces1.ensures c.in-Got.is, length_part _ _ _ w.0 w.1) c.kind_from.ensures
