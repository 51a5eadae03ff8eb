-- `read_trouble::locus_spot` meets its contract. Assumes nothing.
use Rattle.std.proofs.Common.{rules}
use Rattle.read_trouble.proofs.Told.{locating}
use Rattle.read_trouble.proofs.locus_spot.Goals as goal

pub search_at-place-requires : goal.search_at-place-requires
search_at-place-requires c = search (locating, rules)

pub spot_at-requires : goal.spot_at-requires
spot_at-requires c = search (locating, rules)

pub returns : goal.returns
returns c = search (locating, rules)
