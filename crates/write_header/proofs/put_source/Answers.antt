-- By whether there is a source.
use Rattle.std.proofs.Common.{rules}
use Rattle.base_pen.specs.Pen.{writes_nil, writes_append}
use Rattle.write_header.proofs.put_source.Goals as goal

pub put_span-a-requires : goal.put_span-a-requires
put_span-a-requires c =
    let c3 = c in
    let c7 = c3 in
    (search rules, record { small = c7.requires.0; inside = (rw c3.in-Some.is at c7.requires.1).0 }, c7.requires.2, c7.requires.3)

pub put_maybe-requires : goal.put_maybe-requires
put_maybe-requires c =
    let c8 = c in
    let c12 = c8 in
    (search rules, c12.requires.0, (rw c8.in-Some.is at c12.requires.1).1, c12.requires.2, c12.requires.3)

pub returns-in-None : goal.returns-in-None
returns-in-None c = rw c.in-None.is writes_nil

pub returns-in-Some : goal.returns-in-Some
returns-in-Some c =
    let c7 = c in
    let c11 = c7 in
    rw c11.in-Some.is (writes_append c7.put_span-a.ensures c.put_maybe.ensures)
