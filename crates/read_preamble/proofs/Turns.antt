-- The laws of one turn of the search for LOCUS: where it goes on, and why it goes no further.
use Prim.Native.Nat.{ℕ, ◌≤◌, ◌<◌}
use native.Mathlib.Omega.{arith}
use mathlib.Core.Bool.{Bool, true, false}
use mathlib.Core.Path.{◌≡◌, sym, ◌∙◌}
use mathlib.Core.List.{List}
use lib.ListN.{length, drop}
use borrow.Author.Tests.{not-true, not-false}
use Rattle.spec_format.specs.Bytes.{bytes}
use Rattle.spec_format.specs.Utf8.{utf8}
use Rattle.spec_format.specs.Readers.{got, mapped, tag, line, utf8_of, more}
use Rattle.spec_format.specs.Locus.{preamble_turn}
use Rattle.spec_loops.specs.Stopped.{stopped_stop, stopped_no, stopped_cut}
use Rattle.spec_loops.proofs.Stopped.{stopped_more}
use Rattle.spec_loops.proofs.Shrinks.{preamble_small}
use Rattle.scan_bytes.specs.Places.{part}
use Rattle.scan_bytes.specs.Views.{Lined}
use Rattle.scan_bytes.specs.Sequence.{line_places, line_is}
use Rattle.scan_bytes.specs.declared.Line.{Line}
use Rattle.scan_bytes.specs.declared.Line.TheVariants as lines
use Rattle.read_preamble.specs.declared.Onward.TheVariants as onward
use Rattle.read_preamble.specs.Skips.{is_got}
use Rattle.read_preamble.specs.Onwards.{Onwards}
use Rattle.read_preamble.proofs.Laws.{there, not_there}

module _ (s : List ℕ) (at : ℕ) (b : Bool) (f : b ≡ is_got (tag (bytes "LOCUS") (drop at s))) where
  pub at_word : b ≡ true → Onwards preamble_turn s at onward.Stop
  at_word y = record { is = stopped_stop preamble_turn (drop at s) (drop at s) (there (drop at s) (tag (bytes "LOCUS") (drop at s)) (sym y ∙ f)) }

  module _ (r : Line) (y : b ≡ false) (h : Lined s at (line (drop at s)) r) where
    turn_is : preamble_turn (drop at s) ≡ mapped more (utf8_of (line (drop at s)))
    turn_is = not_there (drop at s) (tag (bytes "LOCUS") (drop at s)) (sym y ∙ f)

    pub past_line : (e n : ℕ) (u : Bool) → r ≡ lines.Got e n → u ≡ utf8 (part at e s) → u ≡ true → Onwards preamble_turn s at (onward.To n)
    past_line e n u q g k =
        let p : (at ≤ e) × (e < n) × (n ≤ length s) = line_places h q in
        let l : line (drop at s) ≡ got (part at e s) (drop n s) = line_is h q in
        record { is = (stopped_more preamble_turn preamble_small (drop at s) (part at e s) (drop n s) (turn_is ∙ rw (l, ← g, k)), omega arith, p.2) }

    pub at_other : (e n : ℕ) (u : Bool) → r ≡ lines.Got e n → u ≡ utf8 (part at e s) → u ≡ false → Onwards preamble_turn s at onward.Stop
    at_other e n u q g k =
        let l : line (drop at s) ≡ got (part at e s) (drop n s) = line_is h q in
        record { is = stopped_no preamble_turn (drop at s) (turn_is ∙ rw (l, ← g, k)) }

    pub at_no : r ≡ lines.No → Onwards preamble_turn s at onward.Stop
    at_no q = record { is = stopped_no preamble_turn (drop at s) (turn_is ∙ rw (← h.is, q)) }

    pub at_cut : r ≡ lines.Cut → Onwards preamble_turn s at onward.Stop
    at_cut q = record { is = stopped_cut preamble_turn (drop at s) (turn_is ∙ rw (← h.is, q)) }

-- where the line's text ends
module _ (s : List ℕ) (at : ℕ) (r : Line) (h : Lined s at (line (drop at s)) r) (e n : ℕ) (q : r ≡ lines.Got e n) where
  pub ends_after : at ≤ e
  ends_after = (line_places h q).0

  pub ends_within : e ≤ length s
  ends_within = let p : (at ≤ e) × (e < n) × (n ≤ length s) = line_places h q in omega arith

pub ruleset turns = (at_word, past_line, at_other, at_no, at_cut, ends_after, ends_within, not-true, not-false)
