-- `scan_lines::rest_at`: a part from the place to the end, or the empty part at the end.
use Rattle.std.proofs.Common.{sym, ◌∙◌}
use lib.Seq.{drop-length}
use Rattle.scan_lines.proofs.Feeds.{rest_within, drop_past}
use Rattle.scan_lines.proofs.rest_at.Goals as goal

pub returns-then-place-n : goal.returns-then-place-n
returns-then-place-n c = rest_within c.args.input.now c.args.place

pub returns-else-place-n : goal.returns-else-place-n
returns-else-place-n c =
    rest_within c.args.input.now _ ∙ drop-length c.args.input.now ∙ sym (drop_past c.args.input.now c.args.place c.if-place-n.false)
