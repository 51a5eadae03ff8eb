-- `read_letters::sixty` meets its contract. Assumes nothing.
use Rattle.read_letters.proofs.Passing.{runs_false, sixty_letters, sixty_codes, sixty_common}
use Rattle.std.proofs.lemmas.Bool.{not_from_false, not_from_true}
use Rattle.read_letters.proofs.sixty.Goals as goal

pub returns-then-not-three_spaces : goal.returns-then-not-three_spaces
returns-then-not-three_spaces c = runs_false

pub returns-then-not-three_spaces-2 : goal.returns-then-not-three_spaces-2
returns-then-not-three_spaces-2 c = runs_false

pub returns-then-not-strict : goal.returns-then-not-strict
returns-then-not-strict c =
    let then = c in
    let second = then in
    let first = second in
    sixty_letters _ _ _ _ _ _ first.requires first.three_spaces.ensures (not_from_true _ first.if-not-three_spaces.false) second.three_spaces-2.ensures
    (not_from_true _ second.if-not-three_spaces-2.false) (not_from_false _ then.if-not-strict.true) c.letters_in.ensures

pub returns-then-common_in-eq60 : goal.returns-then-common_in-eq60
returns-then-common_in-eq60 c =
    let else = c in
    let second = else in
    let first = second in
    sixty_common _ _ _ _ _ _ first.requires first.three_spaces.ensures (not_from_true _ first.if-not-three_spaces.false) second.three_spaces-2.ensures
    (not_from_true _ second.if-not-three_spaces-2.false) (not_from_true _ else.if-not-strict.false) c.common_in.ensures c.if-common_in-eq60.true

pub returns : goal.returns
returns c =
    let else = c in
    let second = else in
    let first = second in
    sixty_codes _ _ _ _ _ _ first.requires first.three_spaces.ensures (not_from_true _ first.if-not-three_spaces.false) second.three_spaces-2.ensures
    (not_from_true _ second.if-not-three_spaces-2.false) (not_from_true _ else.if-not-strict.false) c.codes_in.ensures
