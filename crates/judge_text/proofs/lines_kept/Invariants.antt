-- What is left of the text is kept where the whole is; a column grows by two at most.
use Rattle.std.proofs.Common.{◌≡◌, ◌+◌, ◌*◌, ◌≤◌, drop}
use Rattle.spec_format.specs.Keeping.{lines_kept}
use Rattle.judge_text.proofs.lines_kept.Given as goal

abbrev pub invariant-loop-i : goal.invariant-loop-i
invariant-loop-i l =
    (l.used ≤ l.start + 2 * l.i) × (lines_kept l.quote l.width l.indent l.used (drop l.i l.text) ≡ lines_kept l.quote l.width l.indent l.start l.text)
