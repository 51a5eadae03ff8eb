-- The goals of `word_at` that are answered by hand; what its loop keeps, and what falls, is in Invariants.antt.
use Rattle.std.proofs.Common.{◌-◌, rules}
use Rattle.scan_location_bytes.proofs.Words.{spelling, spell_more, spell_other}
use Rattle.scan_location_bytes.proofs.word_at.Goals as goal

pub loop-j-init : goal.loop-j-init
loop-j-init c = search (spelling, rules)

pub byte_at-requires : goal.byte_at-requires
byte_at-requires c = search (spelling, rules)

pub enum_known-byte : goal.enum_known-byte
enum_known-byte c = search (spelling, rules)

pub bounds-word-j : goal.bounds-word-j
bounds-word-j c = search (spelling, rules)

pub overflow_add-j : goal.overflow_add-j
overflow_add-j c = search (spelling, rules)

pub loop-j-smaller : goal.loop-j-smaller
loop-j-smaller c = search (spelling, rules)

pub enum_told-1 : goal.enum_told-1
enum_told-1 c = search (spelling, rules)

pub returns-in-End : goal.returns-in-End
returns-in-End c = search (spelling, rules)

pub overflow_add-result : goal.overflow_add-result
overflow_add-result c = search (spelling, rules)

pub returns : goal.returns
returns c = search (spelling, rules)

pub loop-j-preserved : goal.loop-j-preserved
loop-j-preserved c =
    spell_more c.args.laid c.args.s.now c.args.spot c.args.word.now c.loop-j.at c.loop-j.j c.loop-j.invariant c.byte_at.result c.byte_at.ensures c.loop-j-test.true c.in-Byte.byte c.in-Byte.next c.in-Byte.is c.if-byte-word.false

pub returns-then-byte-word : goal.returns-then-byte-word
returns-then-byte-word c =
    spell_other c.args.laid c.args.s.now c.args.spot c.args.word.now c.loop-j.at c.loop-j.j c.loop-j.invariant c.byte_at.result c.byte_at.ensures c.loop-j-test.true c.in-Byte.byte c.in-Byte.next c.in-Byte.is c.if-byte-word.true
