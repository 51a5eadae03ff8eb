-- `definition_turn`: past a field that is no DEFINITION, or no further.
use Rattle.std.proofs.Common.{rules}
use Rattle.read_trouble_header.proofs.Definitions.{turns}
use Rattle.read_trouble_header.proofs.definition_turn.Goals as goal

pub returns-in-Absent : goal.returns-in-Absent
returns-in-Absent c = search (turns, rules)

pub returns-in-Is : goal.returns-in-Is
returns-in-Is c = search (turns, rules)

pub returns-in-No : goal.returns-in-No
returns-in-No c = search (turns, rules)

pub returns-in-Cut : goal.returns-in-Cut
returns-in-Cut c = search (turns, rules)
