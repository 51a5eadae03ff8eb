-- `read_trouble::origin_ends` meets its contract. Assumes nothing.
use Rattle.std.proofs.Common.{rules}
use Rattle.read_trouble.proofs.Ends.{origins}
use Rattle.read_trouble.proofs.origin_ends.Goals as goal

pub origin_at-requires : goal.origin_at-requires
origin_at-requires c = search (origins, rules)

pub letters_end-requires : goal.letters_end-requires
letters_end-requires c = search (origins, rules)

pub returns-in-Got : goal.returns-in-Got
returns-in-Got c = search (origins, rules)

pub returns-in-No : goal.returns-in-No
returns-in-No c = search (origins, rules)

pub returns-in-Cut : goal.returns-in-Cut
returns-in-Cut c = search (origins, rules)
