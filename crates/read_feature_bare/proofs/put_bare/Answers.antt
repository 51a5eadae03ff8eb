-- `read_feature_bare::put_bare` meets its contract. Assumes nothing.
use Rattle.std.proofs.Common.{rules}
use Rattle.scan_bytes.specs.Sequence.{sequence}
use Rattle.read_feature_bare.proofs.Bares.{firsts, puts}
use Rattle.read_feature_bare.proofs.put_bare.Goals as goal

pub put_all-p-requires : goal.put_all-p-requires
put_all-p-requires c = search (sequence, firsts, puts, rules)

pub put_further-requires : goal.put_further-requires
put_further-requires c = search (sequence, firsts, puts, rules)

pub returns-in-Got : goal.returns-in-Got
returns-in-Got c = search (sequence, firsts, puts, rules)

pub returns-in-No : goal.returns-in-No
returns-in-No c = search (sequence, firsts, puts, rules)

pub returns-in-Cut : goal.returns-in-Cut
returns-in-Cut c = search (sequence, firsts, puts, rules)
