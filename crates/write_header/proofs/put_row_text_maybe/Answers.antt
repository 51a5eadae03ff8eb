-- Absent where the length plus one is 0.
use Rattle.std.proofs.Common.{ap, arith}
use Rattle.spec_format.specs.Write.{maybe_lines}
use Rattle.write_header.specs.Rows.{perhaps_none, perhaps_some}
use Rattle.base_pen.specs.Pen.{writes_nil, writes_as}
use Rattle.write_header.proofs.put_row_text_maybe.Goals as goal

pub returns-then-n-eq0 : goal.returns-then-n-eq0
returns-then-n-eq0 c =
    let c6 = c in
    writes_as (ap (maybe_lines c6.args.width c6.args.word.now) (perhaps_none c6.args.texts.now _ _ c.if-n-eq0.true)) writes_nil

pub put_span-requires : goal.put_span-requires
put_span-requires c =
    let c8 = c in
    (c8.requires.0, record { small = c8.requires.1.small; inside = c8.requires.1.inside (omega arith) }, c8.requires.2, c8.requires.3)

pub returns : goal.returns
returns c =
    let c5 = c in
    let c11 = c5 in
    writes_as (ap (maybe_lines c11.args.width c11.args.word.now) (perhaps_some c11.args.texts.now _ _ c5.if-n-eq0.false)) c.put_span.ensures
