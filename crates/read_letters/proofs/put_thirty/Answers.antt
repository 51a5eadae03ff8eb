-- `read_letters::put_thirty` meets its contract. Assumes nothing.
use Rattle.std.proofs.Common.{◌+◌, ◌-◌, ◌≡◌, arith}
use Rattle.base_pen.specs.Pen.{writes_append}
use Rattle.read_letters.proofs.put_thirty.Goals as goal

pub returns : goal.returns
returns c =
    let c2 = c in
    let c6 = c2 in
    let c10 = c6 in
    let c14 = c10 in
    let e : c14.args.at + 11 - (c14.args.at + 1) ≡ 10 = omega arith in let f : c14.args.at + 22 - (c14.args.at + 12) ≡ 10 = omega arith in let g : c14.args.at + 33 - (c14.args.at + 23) ≡ 10 = omega arith in writes_append (rw e at c10.put_all-a.ensures) (writes_append (rw f at c6.put_all-b.ensures) (rw g at c2.put_all.ensures))
