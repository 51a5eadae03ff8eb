-- `write_wrap_text::line_break` meets its contract. Assumes nothing.
use Rattle.std.proofs.Common.{◌≡◌, ◌∙◌, sym, ◌-◌, ◌≤◌, ◌<◌, length, get_or, take, min, arith, rules, length-take-le, get_or-take}
use Rattle.write_wrap_text.specs.Straight.{start_feed, start_whole, start_full, plain_single, plain_same, full_end}
use Rattle.write_wrap_text.proofs.line_break.Goals as goal

pub returns-in-Some-clause-is : goal.returns-in-Some-clause-is
returns-in-Some-clause-is c =
    let t = c.args.text.now in
    let s = take c.min-n.result t in
    let k = c.in-Some.k in
    let f = c.in-Some.ensures in
    let e : c.min-n.result ≡ min (length t) (c.args.width - c.args.taken) = omega arith in
    let l : length (take k s) ≡ k = length-take-le k s (omega (arith, f.0)) in
    start_feed _ _ _ t _ e k (f.0, c.if-start-k-ne10.false, λ j h. (f.2 j h).0)
    (λ y j h x.
    let z : j < k = omega arith in
    plain_single c.args.quote s c.mark.ensures f.2 y j z (sym (get_or-take k s j 0 z) ∙ x))

pub returns-in-Some-clause-same : goal.returns-in-Some-clause-same
returns-in-Some-clause-same c =
    let t = c.args.text.now in
    let l : length (take c.min-n.result t) ≡ c.min-n.result = length-take-le c.min-n.result t (omega arith) in
    plain_same c.args.quote t c.mark.ensures (omega arith) (omega (arith, c.in-Some.ensures.0)) c.in-Some.ensures.2

pub returns-then-n-text-clause-is : goal.returns-then-n-text-clause-is
returns-then-n-text-clause-is c =
    let t = c.args.text.now in
    let e : c.min-n.result ≡ min (length t) (c.args.width - c.args.taken) = omega arith in
    start_whole _ _ _ t _ e (λ k h. (c.in_default.ensures k h).0) (plain_single c.args.quote _ c.mark.ensures c.in_default.ensures) c.if-n-text.true

pub returns-then-n-text-clause-same : goal.returns-then-n-text-clause-same
returns-then-n-text-clause-same c =
    let t = c.args.text.now in
    let l : length (take c.min-n.result t) ≡ c.min-n.result = length-take-le c.min-n.result t (omega arith) in
    plain_same c.args.quote t c.mark.ensures (omega arith) (omega arith) (λ k h. c.in_default.ensures k (omega arith))

pub returns-then-text-n-lt128-clause-is : goal.returns-then-text-n-lt128-clause-is
returns-then-text-n-lt128-clause-is c =
    let t = c.args.text.now in
    let e : c.min-n.result ≡ min (length t) (c.args.width - c.args.taken) = omega arith in
    start_full _ _ _ t _ e (λ k h. (c.in_default.ensures k h).0) (plain_single c.args.quote _ c.mark.ensures c.in_default.ensures) c.if-n-text.false c.if-text-n-lt128.true _ c.last_of.ensures c.full.ensures

pub returns-then-text-n-lt128-clause-same : goal.returns-then-text-n-lt128-clause-same
returns-then-text-n-lt128-clause-same c =
    let t = c.args.text.now in
    let n = c.min-n.result in
    let l : length (take n t) ≡ n = length-take-le n t (omega arith) in
    let z : c.full.result.end ≤ n = rw (← c.full.ensures) at (full_end (get_or t n 0) n c.last_of.result (search rules)) in
    plain_same c.args.quote t c.mark.ensures (omega arith) z (λ k h. c.in_default.ensures k (omega arith))
