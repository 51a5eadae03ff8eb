-- `put_contig_rows`: the text up to its entry's end is read as it was when the plan found it.
use Rattle.std.proofs.Common.{rules}
use Rattle.read_record_frame.proofs.Laws.{rowing}
use Rattle.read_record_frame.proofs.put_contig_rows.Goals as goal

pub slice_bounds-location_at-count : goal.slice_bounds-location_at-count
slice_bounds-location_at-count c = search (rowing, rules)

pub slice_bounds-location_at-start : goal.slice_bounds-location_at-start
slice_bounds-location_at-start c = search (rowing, rules)

pub slice_bounds-location_at-end : goal.slice_bounds-location_at-end
slice_bounds-location_at-end c = search (rowing, rules)

pub location_at-requires : goal.location_at-requires
location_at-requires c = search (rowing, rules)

pub returns-in-Absent : goal.returns-in-Absent
returns-in-Absent c = search (rowing, rules)

pub returns-in-Is : goal.returns-in-Is
returns-in-Is c = search (rowing, rules)
