-- `read_letters::usual` meets its contract. Assumes nothing.
use Rattle.read_letters.proofs.Passing.{runs_false, usual_law}
use Rattle.std.proofs.lemmas.Bool.{not_from_true}
use Rattle.read_letters.proofs.usual.Goals as goal

pub returns-then-not-ends : goal.returns-then-not-ends
returns-then-not-ends c = runs_false

pub returns-then-not-sixty : goal.returns-then-not-sixty
returns-then-not-sixty c = runs_false

pub returns : goal.returns
returns c =
    usual_law _ _ _ _ _ _ c.ends.ensures (not_from_true _ c.if-not-ends.false) c.sixty.ensures (not_from_true _ c.if-not-sixty.false) c.numbered.ensures
