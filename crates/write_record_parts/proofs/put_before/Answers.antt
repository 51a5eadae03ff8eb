-- The LOCUS line, the header, the line of FEATURES.
use Rattle.base_pen.specs.Pen.{writes_append}
use Rattle.write_record_parts.specs.Parts.{before_parts}
use Rattle.write_record_parts.proofs.put_before.Goals as goal

pub returns : goal.returns
unfolding before_parts
returns c = writes_append (writes_append c.put_locus-a.ensures c.put_header-b.ensures) c.put_title.ensures
