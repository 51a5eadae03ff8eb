-- `scan_location_usual::range_at` meets its contract. Assumes nothing.
use Rattle.std.proofs.Common.{rules}
use Rattle.scan_location_usual.proofs.Ranges.{spotting}
use Rattle.scan_location_usual.proofs.range_at.Goals as goal

pub digit_follows-requires : goal.digit_follows-requires
digit_follows-requires c = search (spotting, rules)

pub overflow_sub-behind : goal.overflow_sub-behind
overflow_sub-behind c = search (spotting, rules)

pub returns-else-digit_follows : goal.returns-else-digit_follows
returns-else-digit_follows c = search (spotting, rules)
