-- `read_locus_tokens::is_plain` meets its contract. Assumes nothing.
use Rattle.std.proofs.Common.{le-leb, ◌-◌}
use borrow.Author.Tests.{lt-leb}
use Rattle.read_locus_tokens.proofs.is_plain.Goals as goal

pub returns-then-is_blank : goal.returns-then-is_blank
returns-then-is_blank c = rw (← c.is_blank.ensures, c.if-is_blank.true)

pub returns-then-b-ge33 : goal.returns-then-b-ge33
returns-then-b-ge33 c = rw (← c.is_blank.ensures, c.if-is_blank.false, le-leb _ _ c.if-b-ge33.true)

pub returns-else-b-ge33 : goal.returns-else-b-ge33
returns-else-b-ge33 c = rw (← c.is_blank.ensures, c.if-is_blank.false, lt-leb _ _ c.if-b-ge33.false)
