-- `read_feature_location::put_location` meets its contract. Assumes nothing.
use Rattle.std.proofs.Common.{rules}
use Rattle.read_feature_location.proofs.Laws.{locating}
use Rattle.read_feature_location.proofs.put_location.Goals as goal

pub slice_bounds-text-count : goal.slice_bounds-text-count
slice_bounds-text-count c = search (locating, rules)

pub piece_at-found-requires : goal.piece_at-found-requires
piece_at-found-requires c = search (locating, rules)

pub overflow_sub-end : goal.overflow_sub-end
overflow_sub-end c = search (locating, rules)

pub returns-in-Line : goal.returns-in-Line
returns-in-Line c = search (locating, rules)

pub returns-in-Lines : goal.returns-in-Lines
returns-in-Lines c = search (locating, rules)

pub returns-in-No : goal.returns-in-No
returns-in-No c = search (locating, rules)

pub returns-in-Cut : goal.returns-in-Cut
returns-in-Cut c = search (locating, rules)
