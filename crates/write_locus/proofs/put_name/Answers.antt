-- By whether there is a text.
use Rattle.write_locus.proofs.put_name.Goals as goal

pub put_span_name-requires : goal.put_span_name-requires
put_span_name-requires c = (c.requires.0, rw c.in-Some.is at c.requires.1)

pub returns-in-None : goal.returns-in-None
returns-in-None c = rw c.in-None.is c.put_printed_name.ensures

pub returns-in-Some : goal.returns-in-Some
returns-in-Some c = rw c.in-Some.is c.put_span_name.ensures
