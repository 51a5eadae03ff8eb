-- `read_locus_tokens::is_blank` meets its contract. Assumes nothing.
use Rattle.std.proofs.Common.{eq-eqb, ne_eqb, ◌-◌}
use Rattle.read_locus_tokens.proofs.is_blank.Goals as goal

pub returns-then-b-eq32 : goal.returns-then-b-eq32
returns-then-b-eq32 c = rw (eq-eqb _ _ c.if-b-eq32.true)

pub returns-else-b-eq32 : goal.returns-else-b-eq32
returns-else-b-eq32 c = rw (ne_eqb _ _ c.if-b-eq32.false)
