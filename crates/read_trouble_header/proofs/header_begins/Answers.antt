-- `header_begins`: after the LOCUS line, or where the search for it ended.
use Rattle.std.proofs.Common.{rules}
use Rattle.read_trouble_header.proofs.Laws.{header}
use Rattle.read_trouble_header.proofs.header_begins.Goals as goal

pub returns-in-Got : goal.returns-in-Got
returns-in-Got c = search (header, rules)

pub returns-in-No : goal.returns-in-No
returns-in-No c = search (header, rules)

pub returns-in-Cut : goal.returns-in-Cut
returns-in-Cut c = search (header, rules)
