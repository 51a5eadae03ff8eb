-- `api_told::told` meets its contract.
use Rattle.std.proofs.Common.{rules}
use Rattle.api_told.proofs.Laws.{done_told, refused_told, room_told}
use Rattle.api_told.proofs.told.Goals as goal

pub returns-in-Done : goal.returns-in-Done
returns-in-Done c = search (done_told, rules)

pub returns-in-Refused : goal.returns-in-Refused
returns-in-Refused c = search (refused_told, rules)

pub returns-in-Room : goal.returns-in-Room
returns-in-Room c = search (room_told, rules)
