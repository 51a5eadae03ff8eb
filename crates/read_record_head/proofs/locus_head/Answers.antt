-- `read_record_head::locus_head` meets its contract. Assumes nothing.
use Rattle.read_record_head.proofs.locus_head.Goals as goal

pub known_head-requires : goal.known_head-requires
known_head-requires c = rw c.in-Known.is at c.requires

pub returns-in-Unknown : goal.returns-in-Unknown
returns-in-Unknown c = rw c.in-Unknown.is

pub returns-in-Known : goal.returns-in-Known
returns-in-Known c = rw c.in-Known.is c.known_head.ensures
