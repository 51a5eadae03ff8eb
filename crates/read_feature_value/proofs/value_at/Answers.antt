-- `read_feature_value::value_at` meets its contract. Assumes nothing.
use Rattle.std.proofs.Common.{rules}
use Rattle.read_feature_value.proofs.Readings.{readings, puts}
use Rattle.read_feature_value.proofs.value_at.Goals as goal

pub quoted_at-requires : goal.quoted_at-requires
quoted_at-requires c = search (readings, puts, rules)

pub enum_known-length : goal.enum_known-length
enum_known-length c = search (readings, puts, rules)

pub enum_told-1 : goal.enum_told-1
enum_told-1 c = search (readings, puts, rules)

pub bare_value_at-requires : goal.bare_value_at-requires
bare_value_at-requires c = search (readings, puts, rules)

pub enum_known-length-in-Got-bare_value_at : goal.enum_known-length-in-Got-bare_value_at
enum_known-length-in-Got-bare_value_at c = search (readings, puts, rules)

pub enum_told-in-No-bare_value_at : goal.enum_told-in-No-bare_value_at
enum_told-in-No-bare_value_at c = search (readings, puts, rules)

pub enum_told-in-Cut-bare_value_at : goal.enum_told-in-Cut-bare_value_at
enum_told-in-Cut-bare_value_at c = search (readings, puts, rules)

pub enum_told-in-Cut : goal.enum_told-in-Cut
enum_told-in-Cut c = search (readings, puts, rules)

pub returns-in-Got : goal.returns-in-Got
returns-in-Got c = search (readings, puts, rules)

pub returns-in-Got-bare_value_at : goal.returns-in-Got-bare_value_at
returns-in-Got-bare_value_at c = search (readings, puts, rules)

pub returns-in-No-bare_value_at : goal.returns-in-No-bare_value_at
returns-in-No-bare_value_at c = search (readings, puts, rules)

pub returns-in-Cut-bare_value_at : goal.returns-in-Cut-bare_value_at
returns-in-Cut-bare_value_at c = search (readings, puts, rules)

pub returns-in-Cut : goal.returns-in-Cut
returns-in-Cut c = search (readings, puts, rules)
