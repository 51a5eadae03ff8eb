-- The goals of `word_end` that are answered by hand; what its loop keeps, and what falls, is in Invariants.antt.
use Rattle.std.proofs.Common.{◌-◌, rules}
use Rattle.read_locus_tokens.proofs.Cuts.{cutting}
use Rattle.read_locus_tokens.proofs.word_end.Goals as goal

pub loop-i-init : goal.loop-i-init
loop-i-init c = search (cutting, rules)

pub bounds-s-i : goal.bounds-s-i
bounds-s-i c = search (cutting, rules)

pub is_blank-requires : goal.is_blank-requires
is_blank-requires c = search (cutting, rules)

pub returns-then-is_blank : goal.returns-then-is_blank
returns-then-is_blank c = search (cutting, rules)

pub overflow_add-i : goal.overflow_add-i
overflow_add-i c = search (cutting, rules)

pub loop-i-smaller : goal.loop-i-smaller
loop-i-smaller c = search (cutting, rules)

pub loop-i-preserved : goal.loop-i-preserved
loop-i-preserved c = search (cutting, rules)

pub returns : goal.returns
returns c = search (cutting, rules)
