-- The words are left to put from each byte on; the measure is what is left of the name.
use Rattle.std.proofs.Common.{◌-◌, ◌≤◌, ◌≡◌, length, drop}
use Rattle.base_pen.specs.Pen.{Left}
use Rattle.write_locus_words.specs.Words.{words_left}
use Rattle.spec_format.specs.Write.{blanked, words, joined}
use Rattle.write_locus_words.proofs.put_joined.Given as goal

abbrev pub invariant-loop-i : goal.invariant-loop-i
invariant-loop-i l = (l.i ≤ length l.name) × (length l.out ≡ length l.initial.out) × Left l.initial.out l.at (joined (words l.name)) l.out l.p (words_left l.place (blanked l.white (drop l.i l.name)))

abbrev pub decreases-loop-i : goal.decreases-loop-i
decreases-loop-i l = length l.name - l.i
