-- `read_feature_names::kind_fits` meets its contract. Assumes nothing.
use Rattle.std.proofs.Common.{◌-◌}
use Rattle.read_feature_names.proofs.Heading.{kind_slash, kind_plain}
use Rattle.read_feature_names.proofs.kind_fits.Goals as goal

pub returns-then-s-from-eq47 : goal.returns-then-s-from-eq47
returns-then-s-from-eq47 c = kind_slash _ _ _ c.requires.0 c.requires.1 c.if-s-from-eq47.true

pub returns : goal.returns
returns c = kind_plain _ _ _ c.requires.0 c.requires.1 _ c.if-s-from-eq47.false c.all_visible.ensures
