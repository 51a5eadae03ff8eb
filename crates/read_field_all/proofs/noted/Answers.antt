-- `read_field_all::noted` meets its contract. Assumes nothing.
use Rattle.std.proofs.Common.{ap, arith}
use Rattle.read_field_all.specs.declared.Amount.{Amount}
use Rattle.read_field_all.specs.Notes.{noting, entry_amount}
use Rattle.read_field_optional.specs.declared.MayEntry.{MayEntry}
use Rattle.read_field_all.proofs.noted.Goals as goal

pub overflow_add-result : goal.overflow_add-result
overflow_add-result c = omega (arith, ap (λ (a : Amount). a.count) c.reference_amount-reference.ensures, c.requires.references)

pub overflow_add-result-2 : goal.overflow_add-result-2
overflow_add-result-2 c = omega (arith, ap (λ (a : Amount). a.bytes) c.reference_amount-reference.ensures, c.requires.reference_bytes)

pub overflow_add-result-3 : goal.overflow_add-result-3
overflow_add-result-3 c =
    let a = ap (λ (a : Amount). a.count) c.entry_amount-comment.ensures in
    let e = ap (λ (e : MayEntry). (entry_amount e).count) c.comment_in.ensures in
    let p = c.requires.comments in
    omega (arith, a, e, p)

pub overflow_add-result-4 : goal.overflow_add-result-4
overflow_add-result-4 c =
    let a = ap (λ (a : Amount). a.bytes) c.entry_amount-comment.ensures in
    let e = ap (λ (e : MayEntry). (entry_amount e).bytes) c.comment_in.ensures in
    let p = c.requires.comment_bytes in
    omega (arith, a, e, p)

pub returns : goal.returns
unfolding noting
returns c =
    let c8 = c in
    let c10 = c8 in
    let c12 = c10 in
    let c14 = c12 in
    let c16 = c14 in
    let c18 = c16 in
    rw (c8.entry_amount-comment.ensures, c8.comment_in.ensures, c10.reference_amount-reference.ensures, c10.later_source-source.ensures, c12.later_in-keywords.ensures, c12.later_in-dblink.ensures, c14.later_in-version.ensures, c14.later_in-accession.ensures, c16.later_in-definition.ensures, c16.twice_by-twice.ensures, c18.entry_in.ensures)
