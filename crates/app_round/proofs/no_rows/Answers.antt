-- The rows by the definition, and not one by one.
use Rattle.std.proofs.Common.{refl}
use Rattle.spec_contracts.specs.Rounds.{empty_rows}
use Rattle.app_round.proofs.no_rows.Goals as goal

pub returns : goal.returns
unfolding empty_rows
returns c = refl
