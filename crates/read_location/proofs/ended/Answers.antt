-- `read_location::ended` meets its contract. Assumes nothing.
use Rattle.std.proofs.Common.{rules}
use Rattle.read_location.proofs.Ending.{ending}
use Rattle.read_location.proofs.Spots.{behinds}
use Rattle.read_location.proofs.ended.Goals as goal

pub byte_or_end-requires : goal.byte_or_end-requires
byte_or_end-requires c = search (behinds, rules)

pub overflow_sub-result : goal.overflow_sub-result
overflow_sub-result c = search (behinds, rules)

pub returns-in-End : goal.returns-in-End
returns-in-End c = search (ending, rules)

pub returns-in-Byte : goal.returns-in-Byte
returns-in-Byte c = search (ending, rules)

pub returns-in-Fault : goal.returns-in-Fault
returns-in-Fault c = search (ending, rules)

pub returns-in-Deep : goal.returns-in-Deep
returns-in-Deep c = search (ending, rules)
