-- `scan_location::version_at` meets its contract. Assumes nothing.
use Rattle.std.proofs.Common.{rules}
use Rattle.scan_location.proofs.Rows.{versions}
use Rattle.scan_location.proofs.version_at.Goals as goal

pub past_run-end-requires : goal.past_run-end-requires
past_run-end-requires c = search (versions, rules)

pub returns-then-end-spot : goal.returns-then-end-spot
returns-then-end-spot c = search (versions, rules)

pub mark_at-requires : goal.mark_at-requires
mark_at-requires c = search (versions, rules)

pub returns : goal.returns
returns c = search (versions, rules)
