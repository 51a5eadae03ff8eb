-- `write_feature::put_value` meets its contract.
use Rattle.std.proofs.Common.{sym, ◌∙◌}
use Rattle.base_pen.specs.Pen.{writes_append, writes_as}
use Rattle.write_feature.specs.Lines.{value_comma, value_bare, value_quoted}
use Rattle.write_feature.proofs.put_value.Goals as goal

pub returns-then-comma_key : goal.returns-then-comma_key
returns-then-comma_key c =
    let c4 = c in
    let c5 = c4 in
    let c8 = c5 in
    let c12 = c8 in
    let c17 = c12 in
    writes_as (value_comma c17.args.width c17.args.k.now c17.args.v.now (sym c5.comma_key.ensures ∙ c4.if-comma_key.true)) (writes_append (writes_append c12.put_key-a.ensures c8.put-b.ensures) c.put_commas.ensures)

pub returns-then-bare_key : goal.returns-then-bare_key
returns-then-bare_key c =
    let c4 = c in
    let c5 = c4 in
    let c6 = c5 in
    let c7 = c6 in
    let c10 = c7 in
    let c14 = c10 in
    let c19 = c14 in
    writes_as (value_bare c19.args.width c19.args.k.now c19.args.v.now (sym c7.comma_key.ensures ∙ c6.if-comma_key.false) (sym c5.bare_key.ensures ∙ c4.if-bare_key.true)) (writes_append (writes_append c14.put_key-a.ensures c10.put-b.ensures) c.put_wrapped.ensures)

pub returns : goal.returns
returns c =
    let c6 = c in
    let c8 = c6 in
    let c9 = c8 in
    let c10 = c9 in
    let c11 = c10 in
    let c14 = c11 in
    let c18 = c14 in
    let c23 = c18 in
    writes_as (value_quoted c23.args.width c23.args.k.now c23.args.v.now (sym c11.comma_key.ensures ∙ c10.if-comma_key.false) (sym c9.bare_key.ensures ∙ c8.if-bare_key.false)) (writes_append (writes_append (writes_append c18.put_key-a.ensures c14.put-b.ensures) c6.put-d.ensures) c.put_wrapped-2.ensures)
