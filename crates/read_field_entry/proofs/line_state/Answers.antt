-- `read_field_entry::line_state` meets its contract. Assumes nothing.
use Rattle.read_field_entry.proofs.Turns.{line_kept, line_plain}
use Rattle.read_field_entry.proofs.line_state.Goals as goal

pub returns-then-keep : goal.returns-then-keep
returns-then-keep c = line_kept _ _ _ _ _ c.if-keep.true c.utf8_feed.ensures c.utf8_on.ensures

pub returns : goal.returns
returns c = line_plain _ _ _ _ c.if-keep.false c.utf8_on-2.ensures
