-- `planned`: too small a room leaves no feature to be put; else all are left.
use Rattle.std.proofs.Common.{rules}
use Rattle.read_record_sizes.specs.Tables.{sizes_bound, locations_bound, contig_bound}
use Rattle.read_record_prepared.proofs.Laws.{planned_room, planned_done}
use Rattle.std.proofs.lemmas.Bool.{not_from_true}
use Rattle.read_record_prepared.proofs.planned.Goals as goal

pub sizes_of-n-requires : goal.sizes_of-n-requires
sizes_of-n-requires c = search (sizes_bound, locations_bound, rules)

pub returns-then-not-enough : goal.returns-then-not-enough
returns-then-not-enough c = search (planned_room, rules)

pub all_rows-requires : goal.all_rows-requires
all_rows-requires c = search (contig_bound, rules)

pub returns : goal.returns
returns c =
    let filled = c in
    let other = filled in
    let sizes = other in
    planned_done _ _ sizes.requires.0 _ _ _ _ _ _ _ _ _ sizes.sizes_of-n.ensures other.enough.ensures _ _ _ _ _ _ _
    (not_from_true _ other.if-not-enough.false) filled.fill_around-place.ensures c.all_rows.ensures
