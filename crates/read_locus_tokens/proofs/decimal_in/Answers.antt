-- The goals of `decimal_in` that are answered by hand; what its loop keeps, and what falls, is in Invariants.antt.
use Rattle.std.proofs.Common.{◌-◌, ◌≡◌, length, arith, rules}
use Rattle.read_locus_tokens.proofs.Digits.{deciding, ten_more, ten_billion}
use Rattle.read_locus_tokens.proofs.decimal_in.Goals as goal

pub loop-i-init : goal.loop-i-init
loop-i-init c = search (deciding, rules)

pub bounds-t-i : goal.bounds-t-i
bounds-t-i c = search (deciding, rules)

pub returns-then-b-lt48 : goal.returns-then-b-lt48
returns-then-b-lt48 c = search (deciding, rules)

pub returns-then-b-gt57 : goal.returns-then-b-gt57
returns-then-b-gt57 c = search (deciding, rules)

pub overflow_mul-v : goal.overflow_mul-v
overflow_mul-v c = let h = ten_billion _ _ c.loop-i.invariant.1 (omega arith) in omega arith

pub overflow_cast-v : goal.overflow_cast-v
overflow_cast-v c = search (deciding, rules)

pub overflow_add-v : goal.overflow_add-v
overflow_add-v c = let h = ten_billion _ _ c.loop-i.invariant.1 (omega arith) in omega arith

pub overflow_add-i : goal.overflow_add-i
overflow_add-i c = search (deciding, rules)

pub loop-i-smaller : goal.loop-i-smaller
loop-i-smaller c = search (deciding, rules)

pub loop-i-preserved : goal.loop-i-preserved
loop-i-preserved c = (search rules, ten_more _ _ _ c.loop-i.invariant.1 (omega arith), search (deciding, rules))

pub returns : goal.returns
returns c =
    record { is = search (deciding, rules); small = let e : c.loop-i.i ≡ length c.args.t.now = omega arith in rw e at c.loop-i.invariant.1 }
