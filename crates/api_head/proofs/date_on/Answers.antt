-- `api_head::date_on` meets its contract.
use Rattle.std.proofs.Common.{rules}
use Rattle.api_head.proofs.Laws.{ways}
use Rattle.api_head.proofs.date_on.Goals as goal

pub lower_byte-requires : goal.lower_byte-requires
lower_byte-requires c = search (ways, rules)

pub lower_byte-requires-2 : goal.lower_byte-requires-2
lower_byte-requires-2 c = search (ways, rules)

pub lower_pair-requires : goal.lower_pair-requires
lower_pair-requires c = search (ways, rules)

pub returns : goal.returns
returns c = rw (c.lower_byte.ensures, c.lower_byte-2.ensures, c.lower_pair.ensures)
