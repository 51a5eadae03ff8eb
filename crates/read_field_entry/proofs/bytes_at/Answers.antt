-- `read_field_entry::bytes_at` meets its contract. Assumes nothing.
use Rattle.std.proofs.Common.{rules}
use Rattle.read_field_entry.proofs.Finding.{enter_none, enter_short, enter_any}
use Rattle.read_field_entry.proofs.bytes_at.Goals as goal

pub returns-in-No : goal.returns-in-No
returns-in-No c = search (enter_none, enter_short, enter_any, rules)

pub returns-in-Cut : goal.returns-in-Cut
returns-in-Cut c = search (enter_none, enter_short, enter_any, rules)

pub returns-in-Got : goal.returns-in-Got
returns-in-Got c = search (enter_none, enter_short, enter_any, rules)
