-- `read_letters::numbered` meets its contract. Assumes nothing.
use Rattle.read_letters.proofs.Passing.{skips_false, numbered_law}
use Rattle.std.proofs.lemmas.Bool.{not_from_true}
use Rattle.read_letters.proofs.numbered.Goals as goal

pub returns-then-not-is_digit : goal.returns-then-not-is_digit
returns-then-not-is_digit c = skips_false

pub returns : goal.returns
returns c = numbered_law _ _ _ _ c.requires c.is_digit.ensures (not_from_true _ c.if-not-is_digit.false) c.skips.ensures
