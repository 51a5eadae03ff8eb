-- The goals of `put_on` that are answered by hand; what its loop keeps, and what falls, is in Invariants.antt.
use Rattle.std.proofs.Common.{◌-◌, rules}
use Rattle.scan_bytes.specs.Sequence.{sequence}
use Rattle.read_feature_quoted.proofs.Values.{puttings, places}
use Rattle.read_feature_quoted.proofs.put_on.Goals as goal

pub loop-to-init : goal.loop-to-init
loop-to-init c = search (puttings, places, sequence, rules)

pub piece_at-requires : goal.piece_at-requires
piece_at-requires c = search (puttings, places, sequence, rules)

pub enum_known-to : goal.enum_known-to
enum_known-to c = search (puttings, places, sequence, rules)

pub put_all-q-requires : goal.put_all-q-requires
put_all-q-requires c = search (puttings, places, sequence, rules)

pub put_feed-p-requires : goal.put_feed-p-requires
put_feed-p-requires c = search (puttings, places, sequence, rules)

pub loop-to-smaller : goal.loop-to-smaller
loop-to-smaller c = search (puttings, places, sequence, rules)

pub loop-to-preserved : goal.loop-to-preserved
loop-to-preserved c = search (puttings, places, sequence, rules)

pub enum_known-to-in-Stop-1 : goal.enum_known-to-in-Stop-1
enum_known-to-in-Stop-1 c = search (puttings, places, sequence, rules)

pub put_all-requires : goal.put_all-requires
put_all-requires c = search (puttings, places, sequence, rules)

pub shape_of-room-in-Stop : goal.shape_of-room-in-Stop
shape_of-room-in-Stop c = search (puttings, places, sequence, rules)

pub returns-in-Stop : goal.returns-in-Stop
returns-in-Stop c = search (puttings, places, sequence, rules)

pub enum_known-to-in-No-1 : goal.enum_known-to-in-No-1
enum_known-to-in-No-1 c = search (puttings, places, sequence, rules)

pub put_all-requires-in-No : goal.put_all-requires-in-No
put_all-requires-in-No c = search (puttings, places, sequence, rules)

pub shape_of-room-in-No : goal.shape_of-room-in-No
shape_of-room-in-No c = search (puttings, places, sequence, rules)

pub returns-in-No : goal.returns-in-No
returns-in-No c = search (puttings, places, sequence, rules)

pub enum_known-to-in-Cut-1 : goal.enum_known-to-in-Cut-1
enum_known-to-in-Cut-1 c = search (puttings, places, sequence, rules)

pub put_all-requires-in-Cut : goal.put_all-requires-in-Cut
put_all-requires-in-Cut c = search (puttings, places, sequence, rules)

pub shape_of-room-in-Cut : goal.shape_of-room-in-Cut
shape_of-room-in-Cut c = search (puttings, places, sequence, rules)

pub returns-in-Cut : goal.returns-in-Cut
returns-in-Cut c = search (puttings, places, sequence, rules)
