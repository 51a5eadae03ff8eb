-- `read_feature_names::key_text` meets its contract. Assumes nothing.
use Rattle.std.proofs.Common.{◌-◌, sym, drop}
use Rattle.spec_format.specs.Features.{key_end}
use Rattle.spec_format.specs.Utf8.{utf8}
use Rattle.spec_format.specs.Readers.{until}
use Rattle.scan_bytes.specs.Sequence.{text_some, text_places}
use Rattle.read_feature_names.proofs.Heading.{pass_no, pass_cut, pass_bad, pass_got}
use Rattle.read_feature_names.proofs.key_text.Goals as goal

pub utf8_ok-requires : goal.utf8_ok-requires
utf8_ok-requires c = text_places c.until_key_end.ensures c.in-Got.is

pub returns-then-utf8_ok : goal.returns-then-utf8_ok
returns-then-utf8_ok c =
    let c3 = c in
    let c5 = c3 in
    let c7 = c5 in
    record { is = sym (pass_got utf8 c5.until_key_end.ensures c3.in-Got.is c.utf8_ok.ensures c.if-utf8_ok.true); place = (c7.requires.0, text_some (until key_end (drop c7.args.from c7.args.s.now)) c5.until_key_end.ensures c3.in-Got.is, (text_places c5.until_key_end.ensures c3.in-Got.is).1) }

pub returns-in-No : goal.returns-in-No
returns-in-No c = record { is = sym (pass_no utf8 c.until_key_end.ensures c.in-No.is); place = tt }

pub returns-in-Cut : goal.returns-in-Cut
returns-in-Cut c = record { is = sym (pass_cut utf8 c.until_key_end.ensures c.in-Cut.is); place = tt }

pub returns-else-utf8_ok : goal.returns-else-utf8_ok
returns-else-utf8_ok c =
    record { is = sym (pass_bad utf8 c.until_key_end.ensures c.in-Got.is c.utf8_ok.ensures c.if-utf8_ok.false); place = tt }
