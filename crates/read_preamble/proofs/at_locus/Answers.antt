-- `at_locus` is `tag`'s answer as a yes or no.
use Rattle.std.proofs.Common.{rules}
use Rattle.read_preamble.proofs.Laws.{standing}
use Rattle.read_preamble.proofs.at_locus.Goals as goal

pub tag-requires : goal.tag-requires
tag-requires c = search (standing, rules)

pub enum_told-1 : goal.enum_told-1
enum_told-1 c = search (standing, rules)

pub enum_told-in-No : goal.enum_told-in-No
enum_told-in-No c = search (standing, rules)

pub enum_told-in-Cut : goal.enum_told-in-Cut
enum_told-in-Cut c = search (standing, rules)

pub returns-in-Got : goal.returns-in-Got
returns-in-Got c = search (standing, rules)

pub returns-in-No : goal.returns-in-No
returns-in-No c = search (standing, rules)

pub returns-in-Cut : goal.returns-in-Cut
returns-in-Cut c = search (standing, rules)
