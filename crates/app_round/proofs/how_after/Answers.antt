-- `how_after` meets its contract, answer by answer.
use Rattle.std.proofs.Common.{rules}
use Rattle.app_round.specs.Rounds.{how_refused, how_room}
use Rattle.app_round.proofs.how_after.Goals as goal

pub returns-in-Refused : goal.returns-in-Refused
returns-in-Refused c = search (how_refused, rules)

pub returns-in-Room : goal.returns-in-Room
returns-in-Room c = search (how_room, rules)
