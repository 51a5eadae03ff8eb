-- `read_feature_names::header_gap` meets its contract. Assumes nothing.
use Rattle.std.proofs.Common.{le_trans, ◌-◌}
use Rattle.scan_bytes.specs.Sequence.{text_no, text_cut, text_is, text_places}
use Rattle.read_feature_names.proofs.header_gap.Goals as goal

pub header_words-requires : goal.header_words-requires
header_words-requires c = let w = text_places c.blanks1.ensures c.in-Got.is in (le_trans c.requires.0 w.0, w.1)

pub returns-in-No : goal.returns-in-No
returns-in-No c = record { is = text_no _ _ _ _ _ c.blanks1.ensures c.in-No.is; place = tt }

pub returns-in-Cut : goal.returns-in-Cut
returns-in-Cut c = record { is = text_cut _ _ _ _ _ c.blanks1.ensures c.in-Cut.is; place = tt }

pub returns-in-Got : goal.returns-in-Got
returns-in-Got c = rw (text_is c.blanks1.ensures c.in-Got.is) c.header_words.ensures
