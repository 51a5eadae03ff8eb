-- `api_head::contig_at` meets its contract.
use Rattle.std.proofs.Common.{◌∙◌}
use Rattle.api_head.proofs.contig_at.Goals as goal

pub returns : goal.returns
returns c =
    let c3 = c in
    c.contig_from.ensures ∙ rw (c3.number_at.ensures, c3.number_at-2.ensures, c.number_at-3.ensures, c.number_at-4.ensures)
