-- `scan_lines::line_step`: past the end no line is begun; else it is `line_at`'s line, and the place after it.
use Rattle.std.proofs.Common.{rules}
use Rattle.scan_lines.proofs.Feeds.{fetching}
use Rattle.scan_lines.proofs.line_step.Goals as goal

pub returns-then-input-place : goal.returns-then-input-place
returns-then-input-place c = search (fetching, rules)

pub returns : goal.returns
returns c = search (fetching, rules)
