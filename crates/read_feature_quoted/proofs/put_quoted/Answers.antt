-- `read_feature_quoted::put_quoted` meets its contract. Assumes nothing.
use Rattle.std.proofs.Common.{rules}
use Rattle.scan_bytes.specs.Sequence.{sequence}
use Rattle.read_feature_quoted.proofs.Steps.{quote_within}
use Rattle.read_feature_quoted.proofs.Values.{puts}
use Rattle.read_feature_quoted.proofs.put_quoted.Goals as goal

pub quote_at-requires : goal.quote_at-requires
quote_at-requires c = search (puts, quote_within, sequence, rules)

pub enum_known-i : goal.enum_known-i
enum_known-i c = search (puts, quote_within, sequence, rules)

pub put_on-requires : goal.put_on-requires
put_on-requires c = search (puts, quote_within, sequence, rules)

pub enum_told-1 : goal.enum_told-1
enum_told-1 c = search (puts, quote_within, sequence, rules)

pub enum_told-in-Cut : goal.enum_told-in-Cut
enum_told-in-Cut c = search (puts, quote_within, sequence, rules)

pub shape_of-room : goal.shape_of-room
shape_of-room c = search (puts, quote_within, sequence, rules)

pub returns-in-Got : goal.returns-in-Got
returns-in-Got c = search (puts, quote_within, sequence, rules)

pub returns-in-No : goal.returns-in-No
returns-in-No c = search (puts, quote_within, sequence, rules)

pub returns-in-Cut : goal.returns-in-Cut
returns-in-Cut c = search (puts, quote_within, sequence, rules)
