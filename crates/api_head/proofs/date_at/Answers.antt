-- `api_head::date_at` meets its contract.
use Rattle.std.proofs.Common.{◌∙◌}
use Rattle.api_head.proofs.date_at.Goals as goal

pub returns : goal.returns
returns c = c.date_from.ensures ∙ rw (c.number_at.ensures, c.number_at-2.ensures, c.number_at-3.ensures)
