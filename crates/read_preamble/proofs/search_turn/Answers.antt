-- `search_turn`: past a line that is UTF-8, or no further than LOCUS or a line that is not.
use Rattle.std.proofs.Common.{rules}
use Rattle.read_preamble.proofs.Turns.{turns}
use Rattle.read_preamble.proofs.search_turn.Goals as goal

pub returns-then-at_locus : goal.returns-then-at_locus
returns-then-at_locus c = search (turns, rules)

pub utf8_ok-requires : goal.utf8_ok-requires
utf8_ok-requires c = search (turns, rules)

pub returns-then-not-utf8_ok : goal.returns-then-not-utf8_ok
returns-then-not-utf8_ok c = search (turns, rules)

pub returns-else-not-utf8_ok : goal.returns-else-not-utf8_ok
returns-else-not-utf8_ok c = search (turns, rules)

pub returns-in-No : goal.returns-in-No
returns-in-No c = search (turns, rules)

pub returns-in-Cut : goal.returns-in-Cut
returns-in-Cut c = search (turns, rules)
