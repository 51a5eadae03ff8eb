-- `read_feature_bare::further_start` meets its contract. Assumes nothing.
use Rattle.std.proofs.Common.{arith, rules}
use Rattle.scan_bytes.specs.Sequence.{sequence}
use Rattle.read_feature_bare.proofs.Lines.{slashes, slash_stops}
use Rattle.read_feature_bare.proofs.further_start.Goals as goal

pub overflow_sub-s : goal.overflow_sub-s
overflow_sub-s c = search (sequence, slashes, rules)

pub overflow_add-at : goal.overflow_add-at
overflow_add-at c = search (sequence, slashes, rules)

pub bounds-s-at : goal.bounds-s-at
bounds-s-at c = search (sequence, slashes, rules)

pub returns-then-s-at-eq47 : goal.returns-then-s-at-eq47
returns-then-s-at-eq47 c = slash_stops c.args.s.now c.args.at c.args.indent (omega arith) c.if-s-at-eq47.true

pub indent-requires : goal.indent-requires
indent-requires c = search (sequence, slashes, rules)

pub enum_known-i : goal.enum_known-i
enum_known-i c = search (sequence, slashes, rules)

pub returns-then-s-i : goal.returns-then-s-i
returns-then-s-i c = search (sequence, slashes, rules)

pub bounds-s-i : goal.bounds-s-i
bounds-s-i c = search (sequence, slashes, rules)

pub returns-then-s-i-eq47 : goal.returns-then-s-i-eq47
returns-then-s-i-eq47 c = search (sequence, slashes, rules)

pub enum_told-1 : goal.enum_told-1
enum_told-1 c = search (sequence, slashes, rules)

pub enum_told-in-Cut : goal.enum_told-in-Cut
enum_told-in-Cut c = search (sequence, slashes, rules)

pub returns-else-s-i-eq47 : goal.returns-else-s-i-eq47
returns-else-s-i-eq47 c = search (sequence, slashes, rules)

pub returns-in-No : goal.returns-in-No
returns-in-No c = search (sequence, slashes, rules)

pub returns-in-Cut : goal.returns-in-Cut
returns-in-Cut c = search (sequence, slashes, rules)
