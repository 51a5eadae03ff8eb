-- The bytes print if those from each byte on do; the measure is what is left of the name.
use Rattle.std.proofs.Common.{◌-◌, ◌≤◌, ◌≡◌, length, drop}
use Rattle.spec_format.specs.Write.{blanked, words, joined}
use Rattle.spec_format.specs.Bytes.{all, printing}
use Rattle.write_locus_words.proofs.words_print.Given as goal

abbrev pub invariant-loop-i : goal.invariant-loop-i
invariant-loop-i l = (l.i ≤ length l.name) × (all printing (joined (words l.name)) ≡ all printing (blanked l.white (drop l.i l.name)))

abbrev pub decreases-loop-i : goal.decreases-loop-i
decreases-loop-i l = length l.name - l.i
