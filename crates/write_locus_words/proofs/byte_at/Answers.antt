-- `write_locus_words::byte_at` meets its contract.
use Rattle.std.proofs.Common.{sym}
use lib.ListN.{get_or-eq_default}
use Rattle.write_locus_words.proofs.byte_at.Goals as goal

pub returns-else-i-s : goal.returns-else-i-s
returns-else-i-s c = sym (get_or-eq_default c.args.s.now 0 {n = c.args.i} c.if-i-s.false)
