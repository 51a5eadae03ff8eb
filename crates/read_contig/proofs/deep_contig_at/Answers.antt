-- `read_contig::deep_contig_at` meets its contract. Assumes nothing.
use Rattle.std.proofs.Common.{rules}
use Rattle.read_contig.proofs.Laws.{words}
use Rattle.read_contig.proofs.deep_contig_at.Goals as goal

pub deep_gap-requires : goal.deep_gap-requires
deep_gap-requires c = search (words, rules)

pub returns-in-No : goal.returns-in-No
returns-in-No c = search (words, rules)

pub returns-in-Cut : goal.returns-in-Cut
returns-in-Cut c = search (words, rules)

pub returns-in-Got : goal.returns-in-Got
returns-in-Got c = search (words, rules)
