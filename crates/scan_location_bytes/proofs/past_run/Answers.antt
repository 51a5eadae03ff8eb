-- The goals of `past_run` that are answered by hand; what its loop keeps, and what falls, is in Invariants.antt.
use Rattle.std.proofs.Common.{◌-◌, rules}
use Rattle.scan_location_bytes.proofs.Words.{running}
use Rattle.scan_location_bytes.proofs.past_run.Goals as goal

pub loop-byte-init : goal.loop-byte-init
loop-byte-init c = search (running, rules)

pub byte_at-requires : goal.byte_at-requires
byte_at-requires c = search (running, rules)

pub enum_known-byte : goal.enum_known-byte
enum_known-byte c = search (running, rules)

pub in_class-requires : goal.in_class-requires
in_class-requires c = search (running, rules)

pub overflow_add-off : goal.overflow_add-off
overflow_add-off c = search (running, rules)

pub loop-byte-smaller : goal.loop-byte-smaller
loop-byte-smaller c = search (running, rules)

pub loop-byte-preserved : goal.loop-byte-preserved
loop-byte-preserved c = search (running, rules)

pub returns-else-in_class : goal.returns-else-in_class
returns-else-in_class c = search (running, rules)

pub enum_told-1 : goal.enum_told-1
enum_told-1 c = search (running, rules)

pub returns-in-End : goal.returns-in-End
returns-in-End c = search (running, rules)
