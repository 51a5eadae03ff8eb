-- The goals of `colon_free` that are answered by hand; what its loop keeps, and what falls, is in Invariants.antt.
use Rattle.std.proofs.Common.{◌-◌, rules}
use Rattle.read_locus_tokens.proofs.Cuts.{cutting}
use Rattle.read_locus_tokens.proofs.colon_free.Goals as goal

pub loop-i-init : goal.loop-i-init
loop-i-init c = search (cutting, rules)

pub bounds-s-i : goal.bounds-s-i
bounds-s-i c = search (cutting, rules)

pub not_colon-requires : goal.not_colon-requires
not_colon-requires c = search (cutting, rules)

pub returns-then-not-not_colon : goal.returns-then-not-not_colon
returns-then-not-not_colon c = search (cutting, rules)

pub overflow_add-i : goal.overflow_add-i
overflow_add-i c = search (cutting, rules)

pub loop-i-smaller : goal.loop-i-smaller
loop-i-smaller c = search (cutting, rules)

pub loop-i-preserved : goal.loop-i-preserved
loop-i-preserved c = search (cutting, rules)

pub returns : goal.returns
returns c = search (cutting, rules)
