-- The goals of `put_further` that are answered by hand; what its loop keeps, and what falls, is in Invariants.antt.
use Rattle.std.proofs.Common.{◌-◌, rules}
use Rattle.read_feature_bare.proofs.Lines.{places}
use Rattle.read_feature_bare.proofs.Bares.{puttings}
use Rattle.read_feature_bare.proofs.put_further.Goals as goal

pub loop-from-init : goal.loop-from-init
loop-from-init c = search (puttings, places, rules)

pub further_at-requires : goal.further_at-requires
further_at-requires c = search (puttings, places, rules)

pub enum_known-from : goal.enum_known-from
enum_known-from c = search (puttings, places, rules)

pub put_all-p-requires : goal.put_all-p-requires
put_all-p-requires c = search (puttings, places, rules)

pub loop-from-smaller : goal.loop-from-smaller
loop-from-smaller c = search (puttings, places, rules)

pub loop-from-preserved : goal.loop-from-preserved
loop-from-preserved c = search (puttings, places, rules)

pub enum_told-1 : goal.enum_told-1
enum_told-1 c = search (puttings, places, rules)

pub shape_of-room-in-Stop : goal.shape_of-room-in-Stop
shape_of-room-in-Stop c = search (puttings, places, rules)

pub returns-in-Stop : goal.returns-in-Stop
returns-in-Stop c = search (puttings, places, rules)

pub enum_told-in-No : goal.enum_told-in-No
enum_told-in-No c = search (puttings, places, rules)

pub shape_of-room-in-No : goal.shape_of-room-in-No
shape_of-room-in-No c = search (puttings, places, rules)

pub returns-in-No : goal.returns-in-No
returns-in-No c = search (puttings, places, rules)

pub enum_told-in-Cut : goal.enum_told-in-Cut
enum_told-in-Cut c = search (puttings, places, rules)

pub shape_of-room-in-Cut : goal.shape_of-room-in-Cut
shape_of-room-in-Cut c = search (puttings, places, rules)

pub returns-in-Cut : goal.returns-in-Cut
returns-in-Cut c = search (puttings, places, rules)
