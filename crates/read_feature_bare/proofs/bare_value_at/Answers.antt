-- `read_feature_bare::bare_value_at` meets its contract. Assumes nothing.
use Rattle.std.proofs.Common.{rules}
use Rattle.read_feature_bare.proofs.Bares.{texts}
use Rattle.read_feature_bare.proofs.bare_value_at.Goals as goal

pub bare_at-requires : goal.bare_at-requires
bare_at-requires c = search (texts, rules)

pub enum_known-length : goal.enum_known-length
enum_known-length c = search (texts, rules)

pub utf8_ends-requires : goal.utf8_ends-requires
utf8_ends-requires c = search (texts, rules)

pub returns-then-utf8_ends : goal.returns-then-utf8_ends
returns-then-utf8_ends c = search (texts, rules)

pub enum_told-1 : goal.enum_told-1
enum_told-1 c = search (texts, rules)

pub enum_told-in-Cut : goal.enum_told-in-Cut
enum_told-in-Cut c = search (texts, rules)

pub returns-else-utf8_ends : goal.returns-else-utf8_ends
returns-else-utf8_ends c = search (texts, rules)

pub returns-in-No : goal.returns-in-No
returns-in-No c = search (texts, rules)

pub returns-in-Cut : goal.returns-in-Cut
returns-in-Cut c = search (texts, rules)
