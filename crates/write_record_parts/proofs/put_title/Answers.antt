-- By whether there is a feature.
use Rattle.base_pen.specs.Pen.{writes_nil, writes_as}
use Rattle.write_record_parts.specs.Parts.{title_none, title_some}
use Rattle.write_record_parts.proofs.put_title.Goals as goal

pub returns-then-features-eq0 : goal.returns-then-features-eq0
returns-then-features-eq0 c = writes_as (title_none c.args.features c.if-features-eq0.true) writes_nil

pub returns : goal.returns
returns c = writes_as (title_some c.args.features c.if-features-eq0.false) c.put_all.ensures
