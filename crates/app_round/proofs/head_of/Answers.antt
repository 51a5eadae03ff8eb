-- `head_of` meets its contract, answer by answer.
use Rattle.std.proofs.Common.{rules}
use Rattle.app_round.specs.Rounds.{head_done, head_refused, head_room}
use Rattle.app_round.proofs.head_of.Goals as goal

pub returns-in-Done : goal.returns-in-Done
returns-in-Done c = search (head_done, rules)

pub returns-in-Refused : goal.returns-in-Refused
returns-in-Refused c = search (head_refused, rules)

pub returns-in-Room : goal.returns-in-Room
returns-in-Room c = search (head_room, rules)
