-- The measures of `read_location::location_in`, `word_in` and `members_in`, three for each nesting that is left, and what the loop over the members keeps. Assumes nothing.
use Rattle.std.proofs.Common.{suc, length, ◌+◌, ◌-◌, ◌*◌}
use Rattle.spec_format.specs.Location.{members_in, location}
use Rattle.scan_location_bytes.specs.Views.{view, total}
use Rattle.read_location.proofs.Cycle.{Going}
use Rattle.read_location.proofs.+location_in_members_in_word_in.Given as goal

abbrev pub decreases-location_in : goal.decreases-location_in
decreases-location_in l = 3 * l.left + 1

abbrev pub decreases-members_in : goal.decreases-members_in
decreases-members_in l = 3 * l.left + 2

abbrev pub decreases-word_in : goal.decreases-word_in
decreases-word_in l = 3 * l.left

abbrev pub invariant-members_in-loop-p : goal.invariant-members_in-loop-p
invariant-members_in-loop-p l =
    Going (members_in (suc (length (view l.laid l.s l.initial.here.at))) l.form (location l.gaps (total l.laid l.s l.initial.here) l.left) (view l.laid l.s l.initial.here.at)) l.gaps l.left l.form l.laid l.s l.seen l.initial.out l.initial.here l.initial.to l.out l.here l.to

abbrev pub decreases-members_in-loop-p : goal.decreases-members_in-loop-p
decreases-members_in-loop-p l = length l.s - l.here.at
