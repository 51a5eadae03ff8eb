-- `write_feature::put_contig` meets its contract.
use Rattle.base_pen.specs.Pen.{writes_append}
use Rattle.spec_format.specs.Wrap.{wrap_location}
use Rattle.write_feature.proofs.put_contig.Goals as goal

pub returns : goal.returns
unfolding wrap_location
returns c = writes_append c.put_all-next.ensures c.put_commas.ensures
