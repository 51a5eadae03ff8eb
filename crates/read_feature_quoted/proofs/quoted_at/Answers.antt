-- `read_feature_quoted::quoted_at` meets its contract. Assumes nothing.
use Rattle.std.proofs.Common.{rules}
use Rattle.scan_bytes.specs.Sequence.{sequence}
use Rattle.read_feature_quoted.proofs.Steps.{quote_within}
use Rattle.read_feature_quoted.proofs.Values.{values}
use Rattle.read_feature_quoted.proofs.quoted_at.Goals as goal

pub quote_at-requires : goal.quote_at-requires
quote_at-requires c = search (values, quote_within, sequence, rules)

pub enum_known-i : goal.enum_known-i
enum_known-i c = search (values, quote_within, sequence, rules)

pub quoted_on-requires : goal.quoted_on-requires
quoted_on-requires c = search (values, quote_within, sequence, rules)

pub enum_told-1 : goal.enum_told-1
enum_told-1 c = search (values, quote_within, sequence, rules)

pub enum_told-in-Cut : goal.enum_told-in-Cut
enum_told-in-Cut c = search (values, quote_within, sequence, rules)

pub returns-in-Got : goal.returns-in-Got
returns-in-Got c = search (values, quote_within, sequence, rules)

pub returns-in-No : goal.returns-in-No
returns-in-No c = search (values, quote_within, sequence, rules)

pub returns-in-Cut : goal.returns-in-Cut
returns-in-Cut c = search (values, quote_within, sequence, rules)
