-- `read_feature_quoted::piece_at` meets its contract. Assumes nothing.
use Rattle.std.proofs.Common.{rules}
use Rattle.scan_bytes.specs.Sequence.{sequence}
use Rattle.read_feature_quoted.proofs.Pieces.{pieces}
use Rattle.read_feature_quoted.proofs.piece_at.Goals as goal

pub plain_end-run-requires : goal.plain_end-run-requires
plain_end-run-requires c = search (pieces, sequence, rules)

pub turn_at-requires : goal.turn_at-requires
turn_at-requires c = search (pieces, sequence, rules)

pub enum_known-n : goal.enum_known-n
enum_known-n c = search (pieces, sequence, rules)

pub overflow_add-result : goal.overflow_add-result
overflow_add-result c = search (pieces, sequence, rules)

pub enum_known-n-in-Feed-1 : goal.enum_known-n-in-Feed-1
enum_known-n-in-Feed-1 c = search (pieces, sequence, rules)

pub enum_known-n-in-Stop-1 : goal.enum_known-n-in-Stop-1
enum_known-n-in-Stop-1 c = search (pieces, sequence, rules)

pub enum_told-1 : goal.enum_told-1
enum_told-1 c = search (pieces, sequence, rules)

pub enum_told-in-Cut : goal.enum_told-in-Cut
enum_told-in-Cut c = search (pieces, sequence, rules)

pub returns-in-Quote : goal.returns-in-Quote
returns-in-Quote c = search (pieces, sequence, rules)

pub returns-in-Feed : goal.returns-in-Feed
returns-in-Feed c = search (pieces, sequence, rules)

pub returns-in-Stop : goal.returns-in-Stop
returns-in-Stop c = search (pieces, sequence, rules)

pub returns-in-No : goal.returns-in-No
returns-in-No c = search (pieces, sequence, rules)

pub returns-in-Cut : goal.returns-in-Cut
returns-in-Cut c = search (pieces, sequence, rules)
