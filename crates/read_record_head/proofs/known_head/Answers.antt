-- `read_record_head::known_head` meets its contract. Assumes nothing.
use Rattle.read_record_head.proofs.known_head.Goals as goal

pub returns : goal.returns
returns c = simp (c.text_from.ensures, c.text_length.ensures)
