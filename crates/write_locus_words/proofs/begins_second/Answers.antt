-- `write_locus_words::begins_second` meets its contract.
use Rattle.std.proofs.Common.{not, ap}
use Rattle.judge_rooms.specs.Steps.{both_is}
use Rattle.write_locus_words.proofs.begins_second.Goals as goal

pub returns : goal.returns
returns c = both_is _ _ _ _ _ c.both.ensures c.is_after.ensures (ap not c.is_blank.ensures)
