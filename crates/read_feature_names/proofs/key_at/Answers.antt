-- `read_feature_names::key_at` meets its contract. Assumes nothing.
use Rattle.std.proofs.Common.{◌-◌}
use Rattle.scan_bytes.specs.Sequence.{step_no, step_cut, step_is, step_places}
use Rattle.read_feature_names.proofs.key_at.Goals as goal

pub key_slash-requires : goal.key_slash-requires
key_slash-requires c = step_places c.indent.ensures c.in-Got.is

pub returns-in-No : goal.returns-in-No
returns-in-No c = record { is = step_no _ _ _ _ _ c.indent.ensures c.in-No.is; place = tt }

pub returns-in-Cut : goal.returns-in-Cut
returns-in-Cut c = record { is = step_cut _ _ _ _ _ c.indent.ensures c.in-Cut.is; place = tt }

pub returns-in-Got : goal.returns-in-Got
returns-in-Got c = rw (step_is c.indent.ensures c.in-Got.is) c.key_slash.ensures
