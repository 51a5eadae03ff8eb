-- `read_field_entry::found_word` meets its contract. Assumes nothing.
use Rattle.std.proofs.Common.{rules}
use Rattle.scan_bytes.specs.Sequence.{sequence}
use Rattle.read_field_entry.specs.Entries.{worded}
use Rattle.read_field_entry.proofs.Finding.{staging}
use Rattle.read_field_entry.proofs.found_word.Goals as goal

pub found_gap-requires : goal.found_gap-requires
found_gap-requires c = search (sequence, rules)

pub returns-in-No : goal.returns-in-No
unfolding worded
returns-in-No c = search (staging, rules)

pub returns-in-Cut : goal.returns-in-Cut
unfolding worded
returns-in-Cut c = search (staging, rules)

pub returns-in-Got : goal.returns-in-Got
unfolding worded
returns-in-Got c = search (staging, rules)
