-- The tests of 11 and 13, in that order.
use Rattle.std.proofs.Common.{le_trans}
use Rattle.judge_record.specs.Rest.{rest_table}
use Rattle.write_record_parts.specs.RestVerdict.{formed_rest, rows_unfit, rest_unfit, plain_fit, rows_broken, rest_broken, keeping_fit}
use Rattle.std.proofs.lemmas.Bool.{not_from_false, not_from_true}
use Rattle.write_record_parts.proofs.rest_verdict.Goals as goal

pub returns-then-not-fine : goal.returns-then-not-fine
returns-then-not-fine c =
    let a = c.args in
    let t = rest_table a.texts.now a.references.now a.comments.now a.letters.now a.head in
    rows_unfit a.how a.fine a.kept t (not_from_false _ c.if-not-fine.true)

pub name_fine-requires : goal.name_fine-requires
name_fine-requires c = let k = c.requires in (k.head, k.header.small, le_trans k.letters k.few)

pub well_formed-requires : goal.well_formed-requires
well_formed-requires c = c.requires

pub keeps-requires : goal.keeps-requires
keeps-requires c = c.requires

pub returns-then-not-how : goal.returns-then-not-how
returns-then-not-how c =
    let a = c.args in
    let t = rest_table a.texts.now a.references.now a.comments.now a.letters.now a.head in
    plain_fit a.how a.fine a.kept t (not_from_true _ c.if-not-fine.false) _
    (formed_rest a.texts.now a.references.now a.comments.now a.letters.now a.head c.requires a.how _ _ c.name_fine.ensures c.well_formed-2.ensures)
    (not_from_true _ c.if-not-well_formed.false) c.if-not-how.true

pub returns-then-not-well_formed : goal.returns-then-not-well_formed
returns-then-not-well_formed c =
    let a = c.args in
    let t = rest_table a.texts.now a.references.now a.comments.now a.letters.now a.head in
    rest_unfit a.how a.fine a.kept t (not_from_true _ c.if-not-fine.false) _
    (formed_rest a.texts.now a.references.now a.comments.now a.letters.now a.head c.requires a.how _ _ c.name_fine.ensures c.well_formed-2.ensures)
    (not_from_false _ c.if-not-well_formed.true)

pub returns-then-not-keeps : goal.returns-then-not-keeps
returns-then-not-keeps c =
    let a = c.args in
    let t = rest_table a.texts.now a.references.now a.comments.now a.letters.now a.head in
    rest_broken a.how a.fine a.kept t (not_from_true _ c.if-not-fine.false) _
    (formed_rest a.texts.now a.references.now a.comments.now a.letters.now a.head c.requires a.how _ _ c.name_fine.ensures c.well_formed-2.ensures)
    (not_from_true _ c.if-not-well_formed.false) c.if-not-how.false (not_from_true _ c.if-not-kept.false) _ c.keeps.ensures (not_from_false _ c.if-not-keeps.true)

pub returns-then-not-kept : goal.returns-then-not-kept
returns-then-not-kept c =
    let a = c.args in
    let t = rest_table a.texts.now a.references.now a.comments.now a.letters.now a.head in
    rows_broken a.how a.fine a.kept t (not_from_true _ c.if-not-fine.false) _
    (formed_rest a.texts.now a.references.now a.comments.now a.letters.now a.head c.requires a.how _ _ c.name_fine.ensures c.well_formed-2.ensures)
    (not_from_true _ c.if-not-well_formed.false) c.if-not-how.false (not_from_false _ c.if-not-kept.true)

pub returns : goal.returns
returns c =
    let a = c.args in
    let t = rest_table a.texts.now a.references.now a.comments.now a.letters.now a.head in
    keeping_fit a.how a.fine a.kept t (not_from_true _ c.if-not-fine.false) _
    (formed_rest a.texts.now a.references.now a.comments.now a.letters.now a.head c.requires a.how _ _ c.name_fine.ensures c.well_formed-2.ensures)
    (not_from_true _ c.if-not-well_formed.false) c.if-not-how.false (not_from_true _ c.if-not-kept.false) _ c.keeps.ensures (not_from_true _ c.if-not-keeps.false)
