-- `read_feature_names::features_header` meets its contract. Assumes nothing.
use Rattle.std.proofs.Common.{◌-◌}
use Rattle.spec_format.specs.Features.{features_header}
use Rattle.scan_bytes.specs.Sequence.{step_no, step_cut, step_is, step_places}
use Rattle.read_feature_names.proofs.features_header.Goals as goal

pub header_gap-requires : goal.header_gap-requires
header_gap-requires c = step_places c.tag.ensures c.in-Got.is

pub returns-in-No : goal.returns-in-No
unfolding features_header
returns-in-No c = record { is = step_no _ _ _ _ _ c.tag.ensures c.in-No.is; place = tt }

pub returns-in-Cut : goal.returns-in-Cut
unfolding features_header
returns-in-Cut c = record { is = step_cut _ _ _ _ _ c.tag.ensures c.in-Cut.is; place = tt }

pub returns-in-Got : goal.returns-in-Got
unfolding features_header
returns-in-Got c = rw (step_is c.tag.ensures c.in-Got.is) c.header_gap.ensures
