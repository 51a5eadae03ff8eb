-- `sizes_of`: the plan's numbers, and where CONTIG's text ends.
use Rattle.read_record_sizes.specs.Sizing.{sizes_in}
use Rattle.read_record_sizes.proofs.sizes_of.Goals as goal

pub returns : goal.returns
unfolding sizes_in
returns c = rw (c.contig_place-place.ensures, c.may_length.ensures)
