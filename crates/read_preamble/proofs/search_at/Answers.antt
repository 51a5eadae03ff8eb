-- The goals of `search_at` that are answered by hand; what its loop keeps, and what falls, is in Invariants.antt.
use Rattle.std.proofs.Common.{rules}
use Rattle.read_preamble.specs.Onwards.{searching}
use Rattle.read_preamble.proofs.search_at.Goals as goal

pub loop-next-init : goal.loop-next-init
loop-next-init c = search (searching, rules)

pub search_turn-requires : goal.search_turn-requires
search_turn-requires c = search (searching, rules)

pub enum_known-next : goal.enum_known-next
enum_known-next c = search (searching, rules)

pub loop-next-smaller : goal.loop-next-smaller
loop-next-smaller c = search (searching, rules)

pub loop-next-preserved : goal.loop-next-preserved
loop-next-preserved c = search (searching, rules)

pub enum_told-1 : goal.enum_told-1
enum_told-1 c = search (searching, rules)

pub returns-in-Stop : goal.returns-in-Stop
returns-in-Stop c = search (searching, rules)
