-- `api_head::source_at` meets its contract.
use Rattle.std.proofs.Common.{◌∙◌}
use Rattle.api_head.proofs.source_at.Goals as goal

pub returns : goal.returns
returns c = c.source_from.ensures ∙ rw (c.number_at.ensures, c.number_at-2.ensures, c.text_at.ensures)
