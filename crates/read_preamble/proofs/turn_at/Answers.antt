-- `turn_at`: LOCUS stands there, or a line is to be passed.
use Rattle.std.proofs.Common.{rules}
use Rattle.read_preamble.proofs.Laws.{turning}
use Rattle.read_preamble.proofs.turn_at.Goals as goal

pub at_locus-requires : goal.at_locus-requires
at_locus-requires c = search (turning, rules)

pub stops-requires : goal.stops-requires
stops-requires c = search (turning, rules)

pub returns-then-at_locus : goal.returns-then-at_locus
returns-then-at_locus c = search (turning, rules)

pub returns : goal.returns
returns c = search (turning, rules)
