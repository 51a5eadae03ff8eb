-- `locus_at` is the word, and what follows it.
use Rattle.std.proofs.Common.{rules}
use Rattle.spec_format.specs.Locus.{locus}
use Rattle.read_locus_at.proofs.Laws.{reading}
use Rattle.read_locus_at.proofs.locus_at.Goals as goal

pub tag-requires : goal.tag-requires
tag-requires c = search (reading, rules)

pub enum_known-next : goal.enum_known-next
enum_known-next c = search (reading, rules)

pub locus_gap-requires : goal.locus_gap-requires
locus_gap-requires c = search (reading, rules)

pub enum_told-1 : goal.enum_told-1
enum_told-1 c = search (reading, rules)

pub enum_told-in-Cut : goal.enum_told-in-Cut
enum_told-in-Cut c = search (reading, rules)

pub returns-in-Got : goal.returns-in-Got
unfolding locus
returns-in-Got c = search (reading, rules)

pub returns-in-No : goal.returns-in-No
unfolding locus
returns-in-No c = search (reading, rules)

pub returns-in-Cut : goal.returns-in-Cut
unfolding locus
returns-in-Cut c = search (reading, rules)
