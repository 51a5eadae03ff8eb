-- Laws of spots and of runs of bytes, for whoever reads on from an answer.
use Rattle.std.specs.Prelude.{ℕ, ◌+◌, ◌-◌, ◌≤◌, ◌<◌, ◌≡◌, Bool, true, false, length, get_or, drop}
use Rattle.std.proofs.Math.Path.{refl}
use Rattle.std.proofs.Common.{ap, ◌∙◌, add-one, arith, drop-cons, ne_eqb}
use mathlib.Core.List.{List, [], ◌∷◌}
use Rattle.spec_format.specs.Bytes.{May, absent, is, starts}
use Rattle.spec_format.specs.Location.{run, past}
use Rattle.spec_format.specs.Deep.{in_line}
use Rattle.spec_location.specs.SoFar.{so_far_byte}
use Rattle.scan_location_bytes.specs.declared.Laid.{Laid}
use Rattle.scan_location_bytes.specs.declared.Laid.TheVariants as laids
use Rattle.scan_location_bytes.specs.declared.Spot.{Spot}
use Rattle.scan_location_bytes.specs.declared.Peek.{Peek}
use Rattle.scan_location_bytes.specs.declared.Peek.TheVariants as peek
use Rattle.scan_location_bytes.specs.declared.Word.{Word}
use Rattle.scan_location_bytes.specs.declared.Word.TheVariants as words
use Rattle.scan_location_bytes.specs.Views.{joined, view, total, Ready, Past, Onto, AtByte, Peeked, AtReached, Reached}

abbrev pub spot : ℕ → ℕ → Spot
spot at off = record { at = at; off = off }

-- ---- bytes

pub drop_more : (s : List ℕ) (i : ℕ) → i < length s → drop i s ≡ get_or s i 0 ∷ drop (i + 1) s
drop_more s i h = rw (add-one, drop-cons s i 0)

above_in_line : (b : ℕ) → 13 < b → in_line b ≡ true
above_in_line b h = rw (ne_eqb b 13 (λ e. omega arith), ne_eqb b 10 (λ e. omega arith))

joined_byte : (laid : Laid) (b : ℕ) (s : List ℕ) → in_line b ≡ true → joined laid (b ∷ s) ≡ b ∷ joined laid s
joined_byte laids.Piece b s h = refl
joined_byte (laids.Feature n) b s h = so_far_byte false n b s h
joined_byte (laids.Contig n) b s h = so_far_byte true n b s h

-- a byte above CR
pub view_byte : (laid : Laid) (s : List ℕ) (at : ℕ) → at < length s → 13 < get_or s at 0 → AtByte laid s at (get_or s at 0) (at + 1)
view_byte laid s at h g =
    record {
      is = ap (joined laid) (drop_more s at h) ∙ joined_byte laid (get_or s at 0) (drop (at + 1) s) (above_in_line _ g);
      up = omega arith;
      within = omega arith;
    }

-- ---- spots

pub past_past : {laid : Laid} {s : List ℕ} {p q r : Spot} → Past laid s p q → Past laid s q r → Past laid s p r
past_past a b =
    record { up = omega arith; within = b.within; ahead = omega arith; below = b.below; less = omega arith; total = omega (arith, a.total, b.total) }

pub past_onto : {laid : Laid} {s : List ℕ} {p q r : Spot} → Past laid s p q → Onto laid s q r → Past laid s p r
past_onto a b =
    record {
      up = omega arith;
      within = b.within;
      ahead = omega arith;
      below = b.below;
      less = omega (arith, a.total, b.total);
      total = omega (arith, a.total, b.total);
    }

pub onto_past : {laid : Laid} {s : List ℕ} {p q r : Spot} → Onto laid s p q → Past laid s q r → Past laid s p r
onto_past a b =
    record {
      up = omega arith;
      within = b.within;
      ahead = omega arith;
      below = b.below;
      less = omega (arith, a.total, b.total);
      total = omega (arith, a.total, b.total);
    }

pub onto_here : (laid : Laid) (s : List ℕ) (p : Spot) → Ready laid s p → Onto laid s p p
onto_here laid s p h = record { up = omega arith; within = h.within; ahead = omega arith; below = h.below; total = refl }

pub past_ready : {laid : Laid} {s : List ℕ} {p q : Spot} → Ready laid s p → Past laid s p q → Ready laid s q
past_ready h g = record { within = g.within; short = h.short; below = g.below }

pub onto_ready : {laid : Laid} {s : List ℕ} {p q : Spot} → Ready laid s p → Onto laid s p q → Ready laid s q
onto_ready h g = record { within = g.within; short = h.short; below = g.below }

-- one byte on
pub byte_past : {laid : Laid} {s : List ℕ} {p : Spot} {b n : ℕ} → Ready laid s p → AtByte laid s p.at b n → Past laid s p (spot n (p.off + 1))
byte_past h g =
    let l = ap length g.is in
    record {
      up = g.up;
      within = g.within;
      ahead = omega arith;
      below = omega (arith, h.below, g.up);
      less = omega (arith, l);
      total = omega (arith, l);
    }

-- ---- answers

module _ (laid : Laid) (s : List ℕ) (at : ℕ) (r : Peek) (h : Peeked laid s at r) where
  pub peek_byte : (b n : ℕ) → r ≡ peek.Byte b n → AtByte laid s at b n
  peek_byte b n e = rw e at h.by

  pub peek_none : r ≡ peek.End → view laid s at ≡ []
  peek_none e = rw e at h.by

  pub peek_within : (b n : ℕ) → r ≡ peek.Byte b n → n ≤ length s
  peek_within b n e = (peek_byte b n e).within

  pub peek_less : (b n : ℕ) → r ≡ peek.Byte b n → length s - n < length s - at
  peek_less b n e = let a = peek_byte b n e in omega (arith, a.up, a.within)

module _ (laid : Laid) (s : List ℕ) (p : Spot) (o : May (List ℕ)) (r : Word) (h : Reached laid s p o r) where
  pub word_past : (q : Spot) → r ≡ words.Past q → AtReached laid s p o q
  word_past q e = rw e at h.by

  pub word_absent : r ≡ words.Other → o ≡ absent
  word_absent e = rw e at h.by

  pub word_ready : (q : Spot) → r ≡ words.Past q → Ready laid s p → Ready laid s q
  word_ready q e g = past_ready g (word_past q e).past

-- ---- runs

module _ (c : ℕ → Bool) where
  pub run_more : (b : ℕ) (s : List ℕ) → c b ≡ true → run c (b ∷ s) ≡ b ∷ run c s
  unfolding run
  run_more b s e = rw (run, e)

  pub past_more : (b : ℕ) (s : List ℕ) → c b ≡ true → past c (b ∷ s) ≡ past c s
  unfolding past
  past_more b s e = rw (past, e)

  pub run_none : (s : List ℕ) → starts c s ≡ false → run c s ≡ []
  unfolding run
  run_none [] e = refl
  run_none (b ∷ s) e = rw (run, e)

  pub past_none : (s : List ℕ) → starts c s ≡ false → past c s ≡ s
  unfolding past
  past_none [] e = refl
  past_none (b ∷ s) e = rw (past, e)
