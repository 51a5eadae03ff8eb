-- `read_record_middle::contig_part` meets its contract. Assumes nothing.
use Rattle.std.proofs.Common.{rules}
use Rattle.read_record_middle.proofs.Laws.{counting}
use Rattle.read_record_middle.proofs.contig_part.Goals as goal

pub contig_at-requires : goal.contig_at-requires
contig_at-requires c = search (counting, rules)

pub returns-in-Cut : goal.returns-in-Cut
returns-in-Cut c = search (counting, rules)

pub returns-in-Got : goal.returns-in-Got
returns-in-Got c = search (counting, rules)
