-- `read_contig::contig_at` meets its contract. Assumes nothing.
use Rattle.std.proofs.Common.{rules}
use Rattle.read_contig.proofs.Laws.{whole}
use Rattle.read_contig.proofs.contig_at.Goals as goal

pub returns-then-deep_contig_at : goal.returns-then-deep_contig_at
returns-then-deep_contig_at c = search (whole, rules)

pub contig_from-requires : goal.contig_from-requires
contig_from-requires c = search (whole, rules)

pub returns-in-Cut : goal.returns-in-Cut
returns-in-Cut c = search (whole, rules)

pub returns-in-No : goal.returns-in-No
returns-in-No c = search (whole, rules)

pub returns-in-Got : goal.returns-in-Got
returns-in-Got c = search (whole, rules)
