-- `seen_in`: too short, `//`, or another line.
use Rattle.std.proofs.Common.{rules}
use Rattle.read_slashes.proofs.Laws.{seeing}
use Rattle.read_slashes.proofs.seen_in.Goals as goal

pub returns-then-rest-lt2 : goal.returns-then-rest-lt2
returns-then-rest-lt2 c = search (seeing, rules)

pub returns-then-slashes_first : goal.returns-then-slashes_first
returns-then-slashes_first c = search (seeing, rules)

pub returns : goal.returns
returns c = search (seeing, rules)
