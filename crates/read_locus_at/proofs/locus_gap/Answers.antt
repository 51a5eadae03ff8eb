-- `locus_gap` is blanks, and the rest.
use Rattle.std.proofs.Common.{rules}
use Rattle.read_locus_at.proofs.Laws.{reading}
use Rattle.read_locus_at.proofs.locus_gap.Goals as goal

pub blanks1-requires : goal.blanks1-requires
blanks1-requires c = search (reading, rules)

pub enum_known-next : goal.enum_known-next
enum_known-next c = search (reading, rules)

pub locus_rest-requires : goal.locus_rest-requires
locus_rest-requires c = search (reading, rules)

pub enum_told-1 : goal.enum_told-1
enum_told-1 c = search (reading, rules)

pub enum_told-in-Cut : goal.enum_told-in-Cut
enum_told-in-Cut c = search (reading, rules)

pub returns-in-Got : goal.returns-in-Got
returns-in-Got c = search (reading, rules)

pub returns-in-No : goal.returns-in-No
returns-in-No c = search (reading, rules)

pub returns-in-Cut : goal.returns-in-Cut
returns-in-Cut c = search (reading, rules)
