-- Whether there are two is told from each byte on; the measure is what is left of the name.
use Rattle.std.proofs.Common.{ltb, ◌-◌, ◌≤◌, ◌≡◌, length, drop}
use Rattle.write_locus_words.specs.Words.{two_left}
use Rattle.spec_format.specs.Write.{blanked, words}
use Rattle.write_locus_words.proofs.two_words.Given as goal

abbrev pub invariant-loop-i : goal.invariant-loop-i
invariant-loop-i l = (l.i ≤ length l.name) × (ltb 1 (length (words l.name)) ≡ two_left l.place (blanked l.white (drop l.i l.name)))

abbrev pub decreases-loop-i : goal.decreases-loop-i
decreases-loop-i l = length l.name - l.i
