-- `api_head::text_at` meets its contract.
use Rattle.std.proofs.Common.{◌∙◌, rules}
use Rattle.api_head.proofs.Laws.{ways}
use Rattle.api_head.proofs.text_at.Goals as goal

pub number_at-requires : goal.number_at-requires
number_at-requires c = search (ways, rules)

pub overflow_add-i : goal.overflow_add-i
overflow_add-i c = search (ways, rules)

pub number_at-requires-2 : goal.number_at-requires-2
number_at-requires-2 c = search (ways, rules)

pub text_from-requires : goal.text_from-requires
text_from-requires c = search (ways, rules)

pub returns : goal.returns
returns c = c.text_from.ensures ∙ rw (c.number_at.ensures, c.number_at-2.ensures)
