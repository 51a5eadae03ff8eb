-- `read_field_entry::found_text` meets its contract. Assumes nothing.
use Rattle.std.proofs.Common.{rules}
use Rattle.read_field_entry.proofs.Finding.{finding}
use Rattle.read_field_entry.proofs.found_text.Goals as goal

pub returns-in-No : goal.returns-in-No
returns-in-No c = search (finding, rules)

pub returns-in-Cut : goal.returns-in-Cut
returns-in-Cut c = search (finding, rules)

pub returns-in-Got : goal.returns-in-Got
returns-in-Got c = search (finding, rules)
