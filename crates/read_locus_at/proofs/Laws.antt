-- The laws of the three parts of a LOCUS line: each answer by the answer of the part before.
use Prim.Native.Nat.{ℕ, ◌-◌, ◌≤◌, ◌<◌}
use native.Mathlib.Omega.{arith}
use mathlib.Core.Path.{◌≡◌}
use mathlib.Core.List.{List}
use lib.ListN.{length, take, drop}
use Rattle.spec_format.specs.Readers.{Ans, bind, line}
use Rattle.spec_format.specs.Table.{Locus}
use Rattle.spec_format.specs.Locus.{locus_line}
use Rattle.scan_bytes.specs.Places.{part}
use Rattle.scan_bytes.specs.Views.{Stepped, Texted, Lined}
use Rattle.scan_bytes.specs.Sequence.{step_places, text_places, line_places, step_within, text_within, step_no, step_cut, step_got, text_no, text_cut, text_got}
use Rattle.scan_bytes.specs.declared.Step.{Step}
use Rattle.scan_bytes.specs.declared.Step.TheVariants as step
use Rattle.scan_bytes.specs.declared.Line.{Line}
use Rattle.scan_bytes.specs.declared.Line.TheVariants as lines
use Rattle.read_locus.specs.declared.LocusPlan.{LocusPlan}
use Rattle.read_locus.specs.Plans.{Planned}
use Rattle.read_locus_at.specs.declared.LocusAt.{LocusAt}
use Rattle.read_locus_at.specs.declared.LocusAt.TheVariants as read
use Rattle.read_locus_at.specs.Reads.{locus_rest, locus_in, LocusEnds, LocusRead}

module _ (s : List ℕ) (at : ℕ) (r : Line) (h : Lined s at (line (drop at s)) r) where
  pub rest_got :
      (e n : ℕ) (p : LocusPlan) → r ≡ lines.Got e n → Planned s (locus_line (take (e - at) (drop at s))) p → LocusRead s at (locus_rest (drop at s)) (read.Got p n)
  rest_got e n p q w =
      let k : (at ≤ e) × (e < n) × (n ≤ length s) = line_places h q in
      record { is = rw (← h.is, q, w.is); place = (omega arith, k.2, w.within) }

  pub rest_no : r ≡ lines.No → LocusRead s at (locus_rest (drop at s)) read.No
  rest_no q = record { is = rw (← h.is, q); place = tt }

  pub rest_cut : r ≡ lines.Cut → LocusRead s at (locus_rest (drop at s)) read.Cut
  rest_cut q = record { is = rw (← h.is, q); place = tt }

  pub rest_ahead : (e n : ℕ) → r ≡ lines.Got e n → at ≤ e
  rest_ahead e n q = (line_places h q).0

  pub rest_inside : (e n : ℕ) → r ≡ lines.Got e n → e ≤ length s
  rest_inside e n q = let k : (at ≤ e) × (e < n) × (n ≤ length s) = line_places h q in omega arith

further : (s : List ℕ) (at n : ℕ) (q : LocusAt) → at ≤ n → LocusEnds s n q → LocusEnds s at q
further s at n (read.Got p k) h w = (omega arith, w.1, w.2)
further s at n read.No h w = w
further s at n read.Cut h w = w

module _ (s : List ℕ) (at n : ℕ) (o : Ans Unit) (r : Step) (q : LocusAt) (f : Unit → List ℕ → Ans Locus) where
  pub word_then : Stepped s at o r → r ≡ step.Got n → LocusRead s n (f tt (drop n s)) q → LocusRead s at (bind o f) q
  word_then h e w = record { is = step_got s at o r f n (locus_in s q) h e w.is; place = further s at n q (step_places h e).0 w.place }

module _ (s : List ℕ) (at n : ℕ) (o : Ans (List ℕ)) (r : Step) (q : LocusAt) (f : List ℕ → List ℕ → Ans Locus) where
  pub gap_then : Texted s at o r → r ≡ step.Got n → LocusRead s n (f (part at n s) (drop n s)) q → LocusRead s at (bind o f) q
  gap_then h e w = record { is = text_got s at o r f n (locus_in s q) h e w.is; place = further s at n q (text_places h e).0 w.place }

pub ruleset reading = (
  rest_got,
  rest_no,
  rest_cut,
  rest_ahead,
  rest_inside,
  word_then,
  gap_then,
  step_within,
  text_within,
  step_no,
  step_cut,
  text_no,
  text_cut,
)
