-- `read_record_head::head_bytes` meets its contract. Assumes nothing.
use Rattle.std.proofs.Common.{rules}
use Rattle.read_record_head.proofs.Laws.{heading}
use Rattle.read_record_head.proofs.head_bytes.Goals as goal

pub header_texts-t-requires : goal.header_texts-t-requires
header_texts-t-requires c = search (heading, rules)

pub overflow_add-result : goal.overflow_add-result
overflow_add-result c = search (heading, rules)

pub returns : goal.returns
returns c = search (heading, rules)
