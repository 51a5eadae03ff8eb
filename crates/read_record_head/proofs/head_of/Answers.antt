-- `read_record_head::head_of` meets its contract. Assumes nothing.
use Rattle.std.proofs.Common.{rules}
use Rattle.read_record_head.proofs.Laws.{heading}
use Rattle.read_record_head.proofs.head_of.Goals as goal

pub header_texts-t-requires : goal.header_texts-t-requires
header_texts-t-requires c = search (heading, rules)

pub source_at-source-requires : goal.source_at-source-requires
source_at-source-requires c = search (heading, rules)

pub returns : goal.returns
returns c = search (heading, rules)
