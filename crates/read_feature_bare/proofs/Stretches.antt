-- A bare text without the test of UTF-8: where no further line follows, its first line is all of it. Assumes nothing.
use Prim.Native.Nat.{ℕ, ◌-◌, ◌≤◌}
use mathlib.Core.Path.{◌≡◌, refl, sym, ◌∙◌}
use mathlib.Core.List.{List, append-nil}
use native.Mathlib.Omega.{arith}
use lib.ListN.{length, drop}
use Rattle.spec_format.specs.Bytes.{spaces}
use Rattle.spec_format.specs.Readers.{Ans, got, cut, bind, tag, line, stop}
use Rattle.spec_format.specs.Features.{not_slash, bare_more, bare}
use Rattle.spec_loops.specs.Loops.{end_stop, end_cut}
use Rattle.scan_bytes.specs.Places.{part}
use Rattle.scan_bytes.specs.Parts.{length_part}
use Rattle.scan_bytes.specs.Views.{Stepped, Lined}
use Rattle.scan_bytes.specs.Sequence.{line_places, line_is}
use Rattle.scan_bytes.specs.declared.Step.{Step}
use Rattle.scan_bytes.specs.declared.Step.TheVariants as step
use Rattle.scan_bytes.specs.declared.Line.{Line}
use Rattle.scan_bytes.specs.declared.Line.TheVariants as line'
use Rattle.read_feature_joined.specs.Taken.{taken_stop, gathered_got, gathered_cut}
use Rattle.scan_utf8.specs.declared.State.{State}
use Rattle.scan_utf8.specs.States.{start}
use Rattle.read_feature_bare.specs.declared.Bare.{Bare}
use Rattle.read_feature_bare.specs.declared.Bare.TheVariants as bare'
use Rattle.read_feature_bare.specs.declared.Stretch.{Stretch}
use Rattle.read_feature_bare.specs.declared.Stretch.TheVariants as stretch
use Rattle.read_feature_bare.specs.Bared.{bare_text, Bared, bared_places, over_lines, Stretched}
use Rattle.read_feature_bare.proofs.Bares.{bare_line, text_line}

pub over_got : (b : Bare) (n next : ℕ) (state : State) → b ≡ bare'.Got n next state → stretch.Lines n next ≡ over_lines b
over_got b n next state e = rw e

module _ (s : List ℕ) (at indent : ℕ) where
  abbrev text : List ℕ
  text = bare_text indent (drop at s)

  abbrev whole : Ans (List ℕ)
  whole = bare indent (drop at s)

  -- a text with further lines, by the one that is tested
  pub stretch_over : (b : Bare) (r : Stretch) → Bared s at 0 start text whole b → r ≡ over_lines b → Stretched s at text whole r
  stretch_over (bare'.Got n next state) r h e = rw e (record { is = h.is; place = bared_places s at indent _ n next state h refl })
  stretch_over bare'.No r h e = rw e (record { is = h.is; place = tt })
  stretch_over bare'.Cut r h e = rw e (record { is = h.is; place = tt })

  module _ (l : Line) (h : Lined s at (line (drop at s)) l) where
    pub stretch_no : l ≡ line'.No → Stretched s at text whole stretch.No
    unfolding bare
    stretch_no q = record { is = rw (← h.is, q); place = tt }

    pub stretch_cut : l ≡ line'.Cut → Stretched s at text whole stretch.Cut
    unfolding bare
    stretch_cut q = record { is = rw (← h.is, q); place = tt }

    module _ (e n : ℕ) (q : l ≡ line'.Got e n) (r : Step) (k : Stepped s n (bind (tag (spaces indent) (drop n s)) (λ _ z. not_slash z)) r) where
      -- no further line
      pub stretch_line : r ≡ step.No → Stretched s at text whole (stretch.Line e n)
      stretch_line f =
          let m : bare_more indent (drop n s) ≡ got stop (drop n s) = rw (← k.is, f) in
          let p = line_places h q in
          let j : e ≤ length s = omega arith in
          let t : text ≡ part at e s = text_line s at indent l (line_is h q) ∙ rw (taken_stop (bare_more indent) (drop n s) (drop n s) m) (append-nil (part at e s)) in
          let x : length text ≡ e - at = rw t (length_part s at e p.0 j) in
          record {
            is = rw (bare_line s at indent l (line_is h q), gathered_got (bare_more indent) (drop n s) (drop n s) (end_stop (bare_more indent) (drop n s) (drop n s) m), text_line s at indent l (line_is h q));
            place = record { is = t; from = p.0; span = record { from = omega arith; within = p.2; long = sym x; short = omega arith } };
          }

      -- whether one follows is not clear
      pub stretch_short : r ≡ step.Cut → Stretched s at text whole stretch.Cut
      stretch_short f =
          let m : bare_more indent (drop n s) ≡ cut = rw (← k.is, f) in
          record { is = rw (bare_line s at indent l (line_is h q), gathered_cut (bare_more indent) (drop n s) (end_cut (bare_more indent) (drop n s) m)); place = tt }

pub ruleset stretches = (stretch_over, stretch_no, stretch_cut, stretch_line, stretch_short)
