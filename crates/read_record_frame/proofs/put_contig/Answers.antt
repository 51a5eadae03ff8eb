-- `read_record_frame::put_contig` meets its contract. Assumes nothing.
use Rattle.std.proofs.Common.{rules}
use Rattle.read_record_frame.proofs.Laws.{joining}
use Rattle.read_record_frame.proofs.put_contig.Goals as goal

pub put_entry-requires : goal.put_entry-requires
put_entry-requires c = search (joining, rules)

pub returns-in-Absent : goal.returns-in-Absent
returns-in-Absent c = search (joining, rules)

pub returns-in-Is : goal.returns-in-Is
returns-in-Is c = search (joining, rules)
