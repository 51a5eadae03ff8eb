-- `read_location::piece_at` meets its contract. Assumes nothing.
use Rattle.std.proofs.Common.{rules}
use Rattle.read_location.proofs.Ending.{usually}
use Rattle.read_location.proofs.piece_at.Goals as goal

pub returns-in-Range : goal.returns-in-Range
returns-in-Range c = search (usually, rules)

pub returns-in-Complement : goal.returns-in-Complement
returns-in-Complement c = search (usually, rules)
