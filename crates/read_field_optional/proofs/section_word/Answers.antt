-- `read_field_optional::section_word` meets its contract. Assumes nothing.
use Rattle.std.proofs.Common.{rules}
use Rattle.read_field_optional.specs.Fields.{section_word}
use Rattle.read_field_optional.proofs.Choosing.{choosing}
use Rattle.read_field_optional.proofs.section_word.Goals as goal

pub returns-in-Got : goal.returns-in-Got
unfolding section_word
returns-in-Got c = search (choosing, rules)

pub returns-in-Cut : goal.returns-in-Cut
unfolding section_word
returns-in-Cut c = search (choosing, rules)

pub returns-in-No : goal.returns-in-No
unfolding section_word
returns-in-No c = search (choosing, rules)
