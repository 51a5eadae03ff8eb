-- `head_in`: the plan's numbers, and where CONTIG's text starts.
use Rattle.std.proofs.Common.{◌∙◌}
use Rattle.read_record_sizes.specs.Sizing.{head_plan}
use Rattle.read_record_sizes.proofs.head_in.Goals as goal

pub returns : goal.returns
unfolding head_plan
returns c = c.head_of.ensures ∙ rw (c.contig_text-last.ensures, c.contig_place-place.ensures)
