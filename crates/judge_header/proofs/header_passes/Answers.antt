-- The tests of the definition, in its order.
use Rattle.std.proofs.Common.{rules}
use Rattle.spec_format.specs.Rooms.{reference_in, comment_in, table_of}
use Rattle.spec_format.specs.WellFormed.{header_texts}
use Rattle.judge_header.proofs.header_passes.Goals as goal

pub returns-then-references_pass : goal.returns-then-references_pass
unfolding header_texts table_of reference_in comment_in
returns-then-references_pass c = search rules

pub returns-else-references_pass : goal.returns-else-references_pass
unfolding header_texts table_of reference_in comment_in
returns-else-references_pass c = search rules
