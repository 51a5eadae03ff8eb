-- `read_contig::deep_gap` meets its contract. Assumes nothing.
use Rattle.std.proofs.Common.{rules}
use Rattle.scan_bytes.specs.Sequence.{text_places}
use Rattle.read_contig.proofs.Laws.{gaps}
use Rattle.read_contig.proofs.deep_gap.Goals as goal

pub overflow_sub-text : goal.overflow_sub-text
overflow_sub-text c = search (gaps, rules)

pub overflow_add-text : goal.overflow_add-text
overflow_add-text c = let p = text_places c.spaces1.ensures c.in-Got.is in search rules

pub too_deep-requires : goal.too_deep-requires
too_deep-requires c = search (gaps, rules)

pub returns-in-No : goal.returns-in-No
returns-in-No c = search (gaps, rules)

pub returns-in-Cut : goal.returns-in-Cut
returns-in-Cut c = search (gaps, rules)

pub returns-in-Got : goal.returns-in-Got
returns-in-Got c = search (gaps, rules)
