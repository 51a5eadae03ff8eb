-- `write_wrap_location::put_commas` meets its contract. Assumes nothing.
use Rattle.std.proofs.Common.{◌<◌, ◌∙◌, length, sym, inl, inr, arith, rules, eqb-true, length-drop}
use Rattle.std.proofs.lemmas.Bool.{eqb-false}
use Rattle.write_wrap_text.specs.Loop.{rest_all}
use Rattle.write_wrap_location.specs.Commas.{commas_start, commas_turn, commas_done}
use Rattle.write_wrap_location.proofs.put_commas.Goals as goal
use Rattle.write_wrap_location.proofs.put_commas.Goals.{then-loop-used-test+else-width-used, else-loop-used-test}

pub loop-used-init : goal.loop-used-init
loop-used-init c = (search rules, search rules, commas_start _ _ _ _ _ _)

pub loop-used-preserved : goal.loop-used-preserved
loop-used-preserved c =
    let t = c.loop-used.rest.now in
    let k = c.comma_break-end.result in
    let some : 0 < length t = omega (arith, eqb-false (length t) 0 (sym c.is_empty.ensures ∙ c.loop-used-test.true)) in
    rw (rest_all t k)
    (omega (arith, length-drop k t), search rules, commas_turn t c.loop-used.invariant.2 (search rules) some c.if-width-used.true c.saturating_sub.ensures c.comma_break-end.ensures c.put_line-p.ensures)

pub returns : goal.returns
returns c =
    let t = c.loop-used.rest.now in
    commas_done t c.loop-used.invariant.2
    (elim c.loop-used-test.branch [
      | then-loop-used-test+else-width-used w ↦ inr w.if-width-used.false
      | else-loop-used-test w ↦ inl (eqb-true (length t) 0 (sym c.is_empty.ensures ∙ w.loop-used-test.false))
    ]) c.put_all-p.ensures c.put.ensures
