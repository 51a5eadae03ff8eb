-- `write_wrap_text::line_scan` meets its contract.
use Rattle.write_wrap_text.specs.Line.{Scanning}
use Rattle.write_wrap_text.specs.Straight.{last_to}
use Rattle.write_wrap_text.proofs.line_scan.Given as goal

abbrev pub invariant-loop-i : goal.invariant-loop-i
invariant-loop-i l = Scanning l.quote l.width l.taken l.text l.i (last_to l.i l.text) l.used
