-- `read_feature_names::key_slash` meets its contract. Assumes nothing.
use Rattle.std.proofs.Common.{◌-◌}
use Rattle.read_feature_names.proofs.Heading.{slash_cut, slash_no, slash_got}
use Rattle.read_feature_names.proofs.key_slash.Goals as goal

pub returns-then-s-from : goal.returns-then-s-from
returns-then-s-from c = record { is = slash_cut _ _ c.if-s-from.true; place = tt }

pub returns-then-s-from-ne47 : goal.returns-then-s-from-ne47
returns-then-s-from-ne47 c = record { is = slash_no _ _ c.if-s-from.false c.if-s-from-ne47.true; place = tt }

pub returns : goal.returns
returns c = rw (← slash_got _ _ c.if-s-from.false c.if-s-from-ne47.false) c.key_text.ensures
