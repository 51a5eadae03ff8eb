-- `write_locus_words::shown_byte` meets its contract.
use Rattle.write_locus_words.proofs.Laws.{shown_white, shown_own}
use Rattle.write_locus_words.proofs.shown_byte.Goals as goal

pub returns-then-w-gt0 : goal.returns-then-w-gt0
returns-then-w-gt0 c = shown_white c.args.w c.args.b c.if-w-gt0.true

pub returns-else-w-gt0 : goal.returns-else-w-gt0
returns-else-w-gt0 c = shown_own c.args.w c.args.b c.if-w-gt0.false
