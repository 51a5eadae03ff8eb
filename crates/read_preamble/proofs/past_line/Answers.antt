-- `past_line`: the line is UTF-8 and the next turn goes on from its end, or the answer is clear.
use Rattle.std.proofs.Common.{rules}
use Rattle.read_preamble.proofs.Laws.{passing_lines}
use Rattle.read_preamble.proofs.past_line.Goals as goal

pub enum_known-line : goal.enum_known-line
enum_known-line c = search (passing_lines, rules)

pub utf8_ok-requires : goal.utf8_ok-requires
utf8_ok-requires c = search (passing_lines, rules)

pub turn_at-requires : goal.turn_at-requires
turn_at-requires c = search (passing_lines, rules)

pub returns-then-utf8_ok : goal.returns-then-utf8_ok
returns-then-utf8_ok c = search (passing_lines, rules)

pub stops-requires : goal.stops-requires
stops-requires c = search (passing_lines, rules)

pub enum_told-1 : goal.enum_told-1
enum_told-1 c = search (passing_lines, rules)

pub stops-requires-in-No : goal.stops-requires-in-No
stops-requires-in-No c = search (passing_lines, rules)

pub enum_told-in-Cut : goal.enum_told-in-Cut
enum_told-in-Cut c = search (passing_lines, rules)

pub stops-requires-in-Cut : goal.stops-requires-in-Cut
stops-requires-in-Cut c = search (passing_lines, rules)

pub returns-else-utf8_ok : goal.returns-else-utf8_ok
returns-else-utf8_ok c = search (passing_lines, rules)

pub returns-in-No : goal.returns-in-No
returns-in-No c = search (passing_lines, rules)

pub returns-in-Cut : goal.returns-in-Cut
returns-in-Cut c = search (passing_lines, rules)
