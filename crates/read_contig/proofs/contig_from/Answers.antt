-- `read_contig::contig_from` meets its contract. Assumes nothing.
use Rattle.std.proofs.Common.{rules}
use Rattle.read_contig.proofs.Laws.{entries}
use Rattle.read_contig.proofs.contig_from.Goals as goal

pub slice_bounds-location_at-count : goal.slice_bounds-location_at-count
slice_bounds-location_at-count c = search (entries, rules)

pub location_at-requires : goal.location_at-requires
location_at-requires c = search (entries, rules)

pub returns-in-Read : goal.returns-in-Read
returns-in-Read c = search (entries, rules)

pub returns-in-None : goal.returns-in-None
returns-in-None c = search (entries, rules)

pub returns-in-TooDeep : goal.returns-in-TooDeep
returns-in-TooDeep c = search (entries, rules)
