-- `read_letters::is_taken` meets its contract. Assumes nothing.
use Rattle.std.proofs.Common.{Bool, ◌∙◌, sym, ap}
use Rattle.read_letters.specs.Runs.{taken}
use Rattle.read_letters.proofs.is_taken.Goals as goal

pub returns-then-strict : goal.returns-then-strict
returns-then-strict c = c.is_coded.ensures ∙ ap (λ (x : Bool). taken x c.args.b) (sym c.if-strict.true)

pub returns : goal.returns
returns c = c.is_letter.ensures ∙ ap (λ (x : Bool). taken x c.args.b) (sym c.if-strict.false)
