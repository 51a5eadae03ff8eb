-- The tests of the definition, in its order.
use Rattle.std.proofs.Common.{rules}
use Rattle.spec_format.specs.Rooms.{rooms_fine, head_fine, counts_fine, reference_row_fine, comment_row_fine, features_fine}
use Rattle.judge_rooms.proofs.rest_fine.Goals as goal

pub returns-then-references_fine : goal.returns-then-references_fine
unfolding rooms_fine head_fine counts_fine reference_row_fine comment_row_fine features_fine
returns-then-references_fine c = search rules

pub returns-else-references_fine : goal.returns-else-references_fine
unfolding rooms_fine head_fine counts_fine reference_row_fine comment_row_fine features_fine
returns-else-references_fine c = search rules
