-- `read_field_entry::field_at` meets its contract. Assumes nothing.
use Rattle.std.proofs.Common.{rules}
use Rattle.spec_format.specs.Header as header
use Rattle.read_field_entry.proofs.Finding.{enter_no, enter_cut, enter_utf8, enter_other}
use Rattle.read_field_entry.proofs.field_at.Goals as goal

pub returns-in-No : goal.returns-in-No
unfolding header.field
returns-in-No c = search (enter_no, enter_cut, enter_utf8, enter_other, rules)

pub returns-in-Cut : goal.returns-in-Cut
unfolding header.field
returns-in-Cut c = search (enter_no, enter_cut, enter_utf8, enter_other, rules)

pub returns-then-utf8_ends : goal.returns-then-utf8_ends
unfolding header.field
returns-then-utf8_ends c = search (enter_no, enter_cut, enter_utf8, enter_other, rules)

pub returns-else-utf8_ends : goal.returns-else-utf8_ends
unfolding header.field
returns-else-utf8_ends c = search (enter_no, enter_cut, enter_utf8, enter_other, rules)
