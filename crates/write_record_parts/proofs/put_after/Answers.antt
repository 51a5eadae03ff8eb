-- CONTIG, and the letters with the end.
use Rattle.base_pen.specs.Pen.{writes_append}
use Rattle.write_record_parts.specs.Parts.{after_parts}
use Rattle.write_record_parts.proofs.put_after.Goals as goal

pub returns : goal.returns
unfolding after_parts
returns c = writes_append c.put_contig_text-a.ensures c.put_end.ensures
