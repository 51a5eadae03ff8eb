-- By whether there is a molecule type.
use Rattle.write_locus.proofs.put_molecule_text.Goals as goal

pub put_span_molecule-requires : goal.put_span_molecule-requires
put_span_molecule-requires c = rw c.in-Some.is at c.requires

pub returns-in-None : goal.returns-in-None
returns-in-None c = rw c.in-None.is c.put_spaces.ensures

pub returns-in-Some : goal.returns-in-Some
returns-in-Some c = rw c.in-Some.is c.put_span_molecule.ensures
