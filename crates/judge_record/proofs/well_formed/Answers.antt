-- The tests of the definition, in its order; of a table without features and CONTIG nothing more is asked.
use Rattle.std.proofs.Common.{rules}
use Rattle.spec_format.specs.Rooms.{rows_from, reference_in, comment_in, table_of}
use Rattle.spec_format.specs.WellFormed.{header_texts}
use Rattle.judge_record.specs.Rules.{well_formed_if}
use Rattle.judge_record.proofs.well_formed.Goals as goal

pub returns-then-header_passes : goal.returns-then-header_passes
unfolding well_formed_if header_texts table_of reference_in comment_in rows_from
returns-then-header_passes c = search rules

pub returns-else-header_passes : goal.returns-else-header_passes
unfolding well_formed_if header_texts table_of reference_in comment_in rows_from
returns-else-header_passes c = search rules
