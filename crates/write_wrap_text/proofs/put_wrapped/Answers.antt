-- `write_wrap_text::put_wrapped` meets its contract. Assumes nothing.
use Rattle.std.proofs.Common.{arith, rules, length-drop}
use Rattle.write_wrap_text.specs.Loop.{text_start, text_turn, text_done, ltb_as, rest_all, rest_empty, rest_more}
use Rattle.write_wrap_text.proofs.put_wrapped.Goals as goal

pub loop-rest-init : goal.loop-rest-init
loop-rest-init c = (search rules, search rules, text_start _ _ _ _ _ _ _)

pub returns-then-is_empty : goal.returns-then-is_empty
returns-then-is_empty c =
    let t = c.loop-rest.rest.now in
    let i = c.loop-rest.invariant in
    let r = c.line_break-doubled.result.0 in
    text_done t i.2 c.line_break-doubled.ensures.is (rest_empty t r.next c.is_empty.ensures c.if-is_empty.true)
    (rw c.line_break-doubled.ensures.same at c.put_escaped-a.ensures) (ltb_as _ _ _ _ (λ h. omega arith) (λ h. omega arith)) c.put_closing.ensures

pub loop-rest-preserved : goal.loop-rest-preserved
loop-rest-preserved c =
    let t = c.loop-rest.rest.now in
    let i = c.loop-rest.invariant in
    let r = c.line_break-doubled.result.0 in
    rw (rest_all t r.next) (
      omega (arith, length-drop r.next t),
      search rules,
      text_turn t i.2 (search rules) c.line_break-doubled.ensures.is (rest_more t r.next c.is_empty.ensures c.if-is_empty.false)
          (rw c.line_break-doubled.ensures.same at c.put_escaped-a.ensures) c.put_break-p.ensures,
    )
