-- By whether there is a text.
use Rattle.write_locus.proofs.text_fine.Goals as goal

pub span_fine-requires : goal.span_fine-requires
span_fine-requires c = (c.requires.0, rw c.in-Some.is at c.requires.1)

pub returns-in-None : goal.returns-in-None
returns-in-None c = rw c.in-None.is c.printed_name_fine.ensures

pub returns-in-Some : goal.returns-in-Some
returns-in-Some c = rw c.in-Some.is c.span_fine.ensures
