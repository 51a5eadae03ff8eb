-- `api_head::span_at` meets its contract.
use Rattle.api_head.proofs.span_at.Goals as goal

pub returns : goal.returns
returns c = rw (c.number_at.ensures, c.number_at-2.ensures)
