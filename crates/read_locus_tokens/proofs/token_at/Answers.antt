-- `read_locus_tokens::token_at` meets its contract. Assumes nothing.
use Rattle.std.proofs.Common.{◌-◌, rules}
use Rattle.read_locus_tokens.proofs.Worded.{token_some, token_none}
use Rattle.read_locus_tokens.proofs.token_at.Goals as goal

pub returns-then-first-end : goal.returns-then-first-end
returns-then-first-end c =
    record { is = token_some _ _ _ _ _ c.blanks_end-first.ensures c.word_end-end.ensures c.if-first-end.true; within = search rules }

pub returns-else-first-end : goal.returns-else-first-end
returns-else-first-end c =
    record { is = token_none _ _ _ _ _ c.blanks_end-first.ensures c.word_end-end.ensures c.if-first-end.false; within = tt }
