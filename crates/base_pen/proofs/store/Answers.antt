-- `base_pen::store` meets its contract. Assumes nothing.
use Rattle.std.proofs.Common.{arith, refl, ap, ◌∙◌, take_all}
use Rattle.std.proofs.lemmas.List.Edits.{sets}
use Rattle.base_pen.specs.Pen.{sets_more}
use Rattle.base_pen.proofs.store.Goals as goal

pub loop-i-preserved : goal.loop-i-preserved
loop-i-preserved g c = rw (c.index-items-i.is, c.loop-i.invariant) (sets_more c.args.items.now c.args.out.now c.args.at c.loop-i.i c.index-items-i.result c.loop-i-test.true)

pub returns : goal.returns
returns g c = record { is = c.loop-i.invariant ∙ ap (sets c.args.out.now c.args.at) (take_all c.loop-i.i c.args.items.now (omega arith)); to = refl }
