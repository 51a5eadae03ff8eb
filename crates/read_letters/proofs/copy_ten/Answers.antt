-- `read_letters::copy_ten` meets its contract. Assumes nothing.
use Rattle.std.proofs.Common.{refl, ap, ◌∙◌, length, arith}
use Rattle.base_pen.specs.Pen.{writes_as}
use Rattle.read_letters.proofs.Passing.{length_ten}
use Rattle.read_letters.proofs.copy_ten.Goals as goal

pub store-requires : goal.store-requires
store-requires c = omega (arith, ap length c.ten_of-t.ensures, length_ten c.args.s.now c.args.at (omega arith))

pub returns : goal.returns
returns c =
    let n = ap length c.ten_of-t.ensures ∙ length_ten c.args.s.now c.args.at (omega arith) in
    (writes_as c.ten_of-t.ensures (record { fit = λ _. rw n at c.store.ensures; up = omega arith }), refl)
