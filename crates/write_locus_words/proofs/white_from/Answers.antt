-- `write_locus_words::white_from` meets its contract.
use Rattle.std.proofs.Common.{drop}
use Rattle.write_locus_words.proofs.Laws.{from_known, from_new}
use Rattle.write_locus_words.proofs.white_from.Goals as goal

pub returns-then-n-gt0 : goal.returns-then-n-gt0
returns-then-n-gt0 c = from_known c.args.n (drop c.args.i c.args.s.now) c.if-n-gt0.true

pub returns : goal.returns
returns c =
    let c3 = c in
    let c4 = c3 in
    let c6 = c4 in
    from_new c6.args.n c6.args.i c6.args.s.now _ _ _ _ c4.if-n-gt0.false c3.byte_at.ensures c.byte_at-2.ensures c.byte_at-3.ensures c.white_of.ensures
