-- One byte of a text, in one piece or over lines, law by law, in the form in which the goals have their facts. Assumes nothing.
use Prim.Native.Nat.{ℕ, ◌+◌, ◌-◌, ◌≤◌, ◌<◌}
use mathlib.Core.Path.{◌≡◌, refl, sym, ap, subst, ◌∙◌}
use mathlib.Core.Bool.{Bool, true, false}
use mathlib.Core.List.{List, [], ◌∷◌}
use native.Mathlib.Omega.{arith}
use lib.ListN.{length, get_or, drop, drop_of_length-le}
use lib.Seq.{drop-cons}
use borrow.Author.Tests.{eq-eqb, ne_eqb}
use Rattle.spec_format.specs.Bytes.{pick, starts}
use Rattle.spec_format.specs.Readers.{Ans, got, no, cut, line_end}
use Rattle.spec_format.specs.Features.{not_slash}
use Rattle.spec_format.specs.Deep.{in_line, further_start, so_far}
use Rattle.spec_location.specs.SoFar.{so_far_nil, so_far_byte, so_far_stray, so_far_ends, so_far_on, so_far_other, so_far_short}
use Rattle.scan_bytes.specs.declared.Step.{Step}
use Rattle.scan_bytes.specs.declared.Step.TheVariants as step
use Rattle.scan_bytes.specs.Views.{step_of, Stepped, Emptied, PastOne}
use Rattle.scan_bytes.specs.Sequence.{empty_places, step_places}
use Rattle.spec_format.specs.Impossible.{impossible}
use Rattle.scan_location_bytes.specs.declared.Laid.{Laid}
use Rattle.scan_location_bytes.specs.declared.Laid.TheVariants as laids
use Rattle.scan_location_bytes.specs.declared.Peek.{Peek}
use Rattle.scan_location_bytes.specs.declared.Peek.TheVariants as peek
use Rattle.scan_location_bytes.specs.Views.{joined, over_lines, line_further, Further, Peeked}
use Rattle.scan_location_bytes.specs.Spots.{drop_more, view_byte}

-- ---- the start of a further line

module _ (s : List ℕ) (i : ℕ) where
  pub slash_end : length s ≤ i → no ≡ not_slash (drop i s)
  slash_end h = rw (drop_of_length-le s h)

  pub slash_no : i < length s → get_or s i 0 ≡ 47 → no ≡ not_slash (drop i s)
  slash_no h e = rw (drop-cons s i 0, eq-eqb _ 47 e)

  pub slash_got : i < length s → (get_or s i 0 ≡ 47 → ⊥) → got tt (drop i s) ≡ not_slash (drop i s)
  slash_got h e = rw (drop-cons s i 0, ne_eqb _ 47 e)

module _ (contig : Bool) (q x y : Ans Unit) where
  pub pick_contig : contig ≡ true → q ≡ x → q ≡ pick contig x y
  pick_contig e f = rw e f

  pub pick_feature : contig ≡ false → q ≡ y → q ≡ pick contig x y
  pick_feature e f = rw e f

pub step_after : (s : List ℕ) (at : ℕ) (o : Ans Unit) (r : Step) (n : ℕ) → Stepped s at o r → r ≡ step.Got n → at ≤ n
step_after s at o r n h e = (step_places h e).0

pub ruleset starting = (slash_end, slash_no, slash_got, pick_contig, pick_feature, step_after)

module _ (contig : Bool) (indent : ℕ) (s : List ℕ) (at : ℕ) (r : Step) (h : Emptied s at (line_end (drop at s)) r) where
  onward : (n : ℕ) (q : Step) → (at < n) × (n ≤ length s) → Stepped s n (further_start contig indent (drop n s)) q → PastOne s at q
  onward n (step.Got i) p g = let k = g.place in (omega arith, k.1)
  onward n step.No p g = tt
  onward n step.Cut p g = tt

  pub line_on : (n : ℕ) → r ≡ step.Got n → (q : Step) → Stepped s n (further_start contig indent (drop n s)) q → Further s at (line_further contig indent (drop at s)) q
  line_on n e q g = record { is = g.is ∙ rw (← h.is, e); place = onward n q (empty_places h e) g }

  pub line_no : r ≡ step.No → Further s at (line_further contig indent (drop at s)) step.No
  line_no e = record { is = rw (← h.is, e); place = tt }

  pub line_cut : r ≡ step.Cut → Further s at (line_further contig indent (drop at s)) step.Cut
  line_cut e = record { is = rw (← h.is, e); place = tt }

pub ruleset ending = (line_on, line_no, line_cut)

-- ---- the text over lines, a step on

lines_on : (contig : Bool) (indent : ℕ) (s r : List ℕ) → line_further contig indent s ≡ got tt r → so_far contig indent s ≡ so_far contig indent r
lines_on contig indent s r e = go (line_end s) refl
  where
    go : (o : Ans (List ℕ)) → line_end s ≡ o → so_far contig indent s ≡ so_far contig indent r
    go (got x y) f = so_far_on contig indent s x y f tt r (rw f at e)
    go no f = impossible cc
    go cut f = impossible cc

lines_no : (contig : Bool) (indent : ℕ) (s : List ℕ) → starts in_line s ≡ false → line_further contig indent s ≡ no → so_far contig indent s ≡ []
lines_no contig indent s h e = go (line_end s) refl
  where
    go : (o : Ans (List ℕ)) → line_end s ≡ o → so_far contig indent s ≡ []
    go (got x y) f = so_far_other contig indent s x y f (rw f at e)
    go no f = so_far_stray contig indent s h f
    go cut f = impossible cc

lines_cut : (contig : Bool) (indent : ℕ) (s : List ℕ) → line_further contig indent s ≡ cut → so_far contig indent s ≡ []
lines_cut contig indent s e = go (line_end s) refl
  where
    go : (o : Ans (List ℕ)) → line_end s ≡ o → so_far contig indent s ≡ []
    go (got x y) f = so_far_short contig indent s x y f (rw f at e)
    go no f = impossible cc
    go cut f = so_far_ends contig indent s f

starts_at : (s : List ℕ) (i : ℕ) → i < length s → in_line (get_or s i 0) ≡ false → starts in_line (drop i s) ≡ false
starts_at s i h e = ap (starts in_line) (drop_more s i h) ∙ e

over_lines_lem : (contig : Bool) (indent : ℕ) (s : List ℕ) → joined (over_lines contig indent) s ≡ so_far contig indent s
over_lines_lem true indent s = refl
over_lines_lem false indent s = refl

-- from `at` on the text is that from i on
pub record Same (contig : Bool) (indent : ℕ) (s : List ℕ) (at i : ℕ) : Type 0 where
  pub is : so_far contig indent (drop at s) ≡ so_far contig indent (drop i s)
  pub up : at ≤ i
  pub within : i ≤ length s

module _ (contig : Bool) (indent : ℕ) (s : List ℕ) (at : ℕ) where
  pub same_here : at ≤ length s → Same contig indent s at at
  same_here h = record { is = refl; up = omega arith; within = h }

  module _ (i : ℕ) (w : Same contig indent s at i) where
    pub same_end : length s ≤ i → Peeked (over_lines contig indent) s at peek.End
    same_end h = record { by = over_lines_lem contig indent (drop at s) ∙ w.is ∙ ap (so_far contig indent) (drop_of_length-le s h) ∙ so_far_nil contig indent }

    pub same_byte : (t : Bool) → t ≡ in_line (get_or s i 0) → t ≡ true → i < length s → Peeked (over_lines contig indent) s at (peek.Byte (get_or s i 0) (i + 1))
    same_byte t e f h =
        let b = get_or s i 0 in
        record {
          by = record {
            is =
                over_lines_lem contig indent (drop at s) ∙ w.is ∙ ap (so_far contig indent) (drop_more s i h) ∙
                so_far_byte contig indent b (drop (i + 1) s) (sym e ∙ f) ∙ ap (λ (z : List ℕ). b ∷ z) (sym (over_lines_lem contig indent (drop (i + 1) s)));
            up = omega arith;
            within = omega arith;
          };
        }

    module _ (r : Step) (g : Further s i (line_further contig indent (drop i s)) r) where
      further_is : (x : Step) → r ≡ x → line_further contig indent (drop i s) ≡ step_of s x
      further_is x e = sym g.is ∙ ap (step_of s) e

      further_place : (n : ℕ) → r ≡ step.Got n → (i < n) × (n ≤ length s)
      further_place n e = subst (λ (x : Step). PastOne s i x) e g.place

      pub same_on : (n : ℕ) → r ≡ step.Got n → Same contig indent s at n
      same_on n e =
          let p = further_place n e in
          record { is = w.is ∙ lines_on contig indent (drop i s) (drop n s) (further_is (step.Got n) e); up = omega arith; within = p.1 }

      pub same_less : (n : ℕ) → r ≡ step.Got n → length s - n < length s - i
      same_less n e = let p = further_place n e in omega arith

      pub same_no : (t : Bool) → t ≡ in_line (get_or s i 0) → t ≡ false → i < length s → r ≡ step.No → Peeked (over_lines contig indent) s at peek.End
      same_no t k f h e =
          record { by = over_lines_lem contig indent (drop at s) ∙ w.is ∙ lines_no contig indent (drop i s) (starts_at s i h (sym k ∙ f)) (further_is step.No e) }

      pub same_cut : r ≡ step.Cut → Peeked (over_lines contig indent) s at peek.End
      same_cut e = record { by = over_lines_lem contig indent (drop at s) ∙ w.is ∙ lines_cut contig indent (drop i s) (further_is step.Cut e) }

pub ruleset linewise = (same_here, same_end, same_byte, same_on, same_less, same_no, same_cut)

-- ---- the next byte, however the text lies

joined_nil : (laid : Laid) → joined laid [] ≡ []
joined_nil laids.Piece = refl
joined_nil (laids.Feature n) = so_far_nil false n
joined_nil (laids.Contig n) = so_far_nil true n

module _ (s : List ℕ) (at : ℕ) where
  pub peek_end : (laid : Laid) → length s ≤ at → Peeked laid s at peek.End
  peek_end laid h = record { by = ap (joined laid) (drop_of_length-le s h) ∙ joined_nil laid }

  pub peek_above : (laid : Laid) → at < length s → 13 < get_or s at 0 → Peeked laid s at (peek.Byte (get_or s at 0) (at + 1))
  peek_above laid h g =
      record { by = view_byte laid s at h g }

  pub peek_piece : (laid : Laid) → laid ≡ laids.Piece → at < length s → Peeked laid s at (peek.Byte (get_or s at 0) (at + 1))
  peek_piece laid e h = rw e (record { by = record { is = drop_more s at h; up = omega arith; within = omega arith } })

  pub peek_feature : (laid : Laid) (n : ℕ) (r : Peek) → laid ≡ laids.Feature n → Peeked (over_lines false n) s at r → Peeked laid s at r
  peek_feature laid n r e h = rw e h

  pub peek_contig : (laid : Laid) (n : ℕ) (r : Peek) → laid ≡ laids.Contig n → Peeked (over_lines true n) s at r → Peeked laid s at r
  peek_contig laid n r e h = rw e h

pub ruleset peeks = (peek_end, peek_above, peek_piece, peek_feature, peek_contig)
