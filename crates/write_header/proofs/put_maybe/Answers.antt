-- By whether there is a text.
use Rattle.base_pen.specs.Pen.{writes_nil}
use Rattle.write_header.proofs.put_maybe.Goals as goal

pub put_span-requires : goal.put_span-requires
put_span-requires c =
    let c7 = c in
    (c7.requires.0, record { small = c7.requires.1; inside = rw c.in-Some.is at c7.requires.2 }, c7.requires.3, c7.requires.4)

pub returns-in-None : goal.returns-in-None
returns-in-None c = rw c.in-None.is writes_nil

pub returns-in-Some : goal.returns-in-Some
returns-in-Some c = rw c.in-Some.is c.put_span.ensures
