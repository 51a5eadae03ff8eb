-- `write_origin::put_letters` meets its contract.
use Rattle.std.proofs.Common.{◌≡◌, length, sym, ◌∙◌, arith}
use Rattle.spec_format.specs.Write.{letter_lines}
use Rattle.base_pen.specs.Pen.{writes_past}
use Rattle.write_origin.specs.Measure.{letters_measured}
use Rattle.write_origin.proofs.put_letters.Goals as goal

pub returns-then-out-at : goal.returns-then-out-at
returns-then-out-at c =
    let e : length (letter_lines 0 c.args.letters.now) ≡ c.letters_length.result = letters_measured _ c.requires ∙ sym c.letters_length.ensures in
    writes_past c.if-out-at.true (omega arith) (λ f. omega (arith, e))

pub returns : goal.returns
returns c = c.put_lines-k.ensures.left.by _ _ c.put_tens.ensures
