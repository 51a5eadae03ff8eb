-- `read_field_entry::found_at` meets its contract. Assumes nothing.
use Rattle.std.proofs.Common.{rules}
use Rattle.scan_bytes.specs.Sequence.{sequence}
use Rattle.spec_format.specs.Header.{field_bytes}
use Rattle.read_field_entry.specs.Entries.{worded, gapped}
use Rattle.read_field_entry.proofs.Finding.{staging}
use Rattle.read_field_entry.proofs.found_at.Goals as goal

pub found_word-requires : goal.found_word-requires
found_word-requires c = search (sequence, rules)

pub returns-in-No : goal.returns-in-No
unfolding field_bytes worded gapped
returns-in-No c = search (staging, rules)

pub returns-in-Cut : goal.returns-in-Cut
unfolding field_bytes worded gapped
returns-in-Cut c = search (staging, rules)

pub returns-in-Got : goal.returns-in-Got
unfolding field_bytes worded gapped
returns-in-Got c = search (staging, rules)
