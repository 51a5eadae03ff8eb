-- `read_feature_names::kind_from` meets its contract. Assumes nothing.
use Rattle.std.proofs.Common.{◌-◌, drop}
use borrow.Author.Tests.{not-true, not-false}
use Rattle.spec_format.specs.Features.{kind_text}
use Rattle.spec_format.specs.Bytes.{space}
use Rattle.spec_format.specs.Readers.{until}
use Rattle.scan_bytes.specs.Sequence.{text_some, text_places}
use Rattle.read_feature_names.proofs.Heading.{pass_no, pass_cut, pass_bad, pass_got}
use Rattle.std.proofs.lemmas.Bool.{not_from_false, not_from_true}
use Rattle.read_feature_names.proofs.kind_from.Goals as goal

pub kind_fits-requires : goal.kind_fits-requires
kind_fits-requires c =
    let c3 = c in
    let c5 = c3 in
    (text_some (until space (drop c5.args.first c5.args.s.now)) c3.until_space.ensures c.in-Got.is, (text_places c3.until_space.ensures c.in-Got.is).1)

pub returns-then-not-kind_fits : goal.returns-then-not-kind_fits
returns-then-not-kind_fits c =
    record { is = rw (pass_bad kind_text c.until_space.ensures c.in-Got.is c.kind_fits.ensures (not-true _ (not_from_false _ c.if-not-kind_fits.true))); place = tt }

pub kind_gap-requires : goal.kind_gap-requires
kind_gap-requires c =
    let c3 = c in
    let c5 = c3 in
    let c7 = c5 in
    (c7.requires.0, text_some (until space (drop c7.args.first c7.args.s.now)) c5.until_space.ensures c3.in-Got.is, (text_places c5.until_space.ensures c3.in-Got.is).1)

pub returns-in-No : goal.returns-in-No
returns-in-No c = record { is = rw (pass_no kind_text c.until_space.ensures c.in-No.is); place = tt }

pub returns-in-Cut : goal.returns-in-Cut
returns-in-Cut c = record { is = rw (pass_cut kind_text c.until_space.ensures c.in-Cut.is); place = tt }

pub returns-else-not-kind_fits : goal.returns-else-not-kind_fits
returns-else-not-kind_fits c =
    rw (pass_got kind_text c.until_space.ensures c.in-Got.is c.kind_fits.ensures (not-false _ (not_from_true _ c.if-not-kind_fits.false))) c.kind_gap.ensures
