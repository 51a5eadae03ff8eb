-- Words, classes and runs of bytes, law by law, in the form in which the goals have their facts. Assumes nothing.
use Prim.Native.Nat.{ℕ, ◌+◌, ◌-◌, ◌≤◌, ◌<◌}
use mathlib.Core.Path.{◌≡◌, refl, sym, ap, ◌∙◌}
use mathlib.Core.Bool.{Bool, true, false, ◌&&◌, ◌||◌, not}
use mathlib.Core.List.{List, [], ◌∷◌}
use native.Mathlib.Numerals.{add-one}
use native.Mathlib.Omega.{arith}
use lib.ListN.{length, get_or, drop, drop_of_length-le}
use lib.Seq.{drop-cons}
use lib.Dec.{eqb}
use borrow.Author.Tests.{eq-eqb, ne_eqb}
use Rattle.spec_format.specs.Bytes.{absent, is, starts, digit}
use Rattle.spec_format.specs.Location.{run, past, behind, in_accession, in_gap}
use Rattle.scan_location_bytes.specs.declared.Laid.{Laid}
use Rattle.scan_location_bytes.specs.declared.Spot.{Spot}
use Rattle.scan_location_bytes.specs.declared.Peek.{Peek}
use Rattle.scan_location_bytes.specs.declared.Peek.TheVariants as peek
use Rattle.scan_location_bytes.specs.declared.Word.TheVariants as words
use Rattle.scan_location_bytes.specs.declared.Class.{Class}
use Rattle.scan_location_bytes.specs.declared.Class.TheVariants as class
use Rattle.scan_location_bytes.specs.Views.{view, total, Ready, Past, Onto, Peeked, Reached, in_class, Ran}
use Rattle.scan_location_bytes.specs.Spots.{spot, onto_here, byte_past, peek_byte, peek_none, peek_within, peek_less, run_more, past_more, run_none, past_none}

-- ---- one byte

module _ (m b : ℕ) (s : List ℕ) where
  mark_same : b ≡ m → behind (m ∷ []) (b ∷ s) ≡ is s
  unfolding behind
  mark_same e = rw (behind, eq-eqb b m e)

  mark_other : (b ≡ m → ⊥) → behind (m ∷ []) (b ∷ s) ≡ absent
  unfolding behind
  mark_other e = rw (behind, ne_eqb b m e)

mark_none : (m : ℕ) → behind (m ∷ []) [] ≡ absent
unfolding behind
mark_none m = refl

module _ (laid : Laid) (s : List ℕ) (p : Spot) (m : ℕ) (r : Peek) (h : Peeked laid s p.at r) where
  pub mark_end : r ≡ peek.End → Reached laid s p (behind (m ∷ []) (view laid s p.at)) words.Other
  mark_end e = record { by = ap (behind (m ∷ [])) (peek_none laid s p.at r h e) ∙ mark_none m }

  module _ (b n : ℕ) (e : r ≡ peek.Byte b n) where
    pub mark_past : Ready laid s p → b ≡ m → Reached laid s p (behind (m ∷ []) (view laid s p.at)) (words.Past (spot n (p.off + 1)))
    mark_past g f =
        let a = peek_byte laid s p.at r h b n e in
        record { by = record { is = ap (behind (m ∷ [])) a.is ∙ mark_same m b (view laid s n) f; past = byte_past g a } }

    pub mark_not : (b ≡ m → ⊥) → Reached laid s p (behind (m ∷ []) (view laid s p.at)) words.Other
    mark_not f = record { by = ap (behind (m ∷ [])) (peek_byte laid s p.at r h b n e).is ∙ mark_other m b (view laid s n) f }

pub ruleset marks = (mark_end, mark_past, mark_not)

-- ---- a word, byte by byte

module _ (w : List ℕ) (j : ℕ) where
  word_drop : j < length w → drop j w ≡ get_or w j 0 ∷ drop (j + 1) w
  word_drop h = rw (add-one, drop-cons w j 0)

  behind_same : (b : ℕ) (s : List ℕ) → j < length w → b ≡ get_or w j 0 → behind (drop j w) (b ∷ s) ≡ behind (drop (j + 1) w) s
  unfolding behind
  behind_same b s h e = ap (λ (x : List ℕ). behind x (b ∷ s)) (word_drop h) ∙ rw (behind, eq-eqb b (get_or w j 0) e)

  behind_other : (b : ℕ) (s : List ℕ) → j < length w → (b ≡ get_or w j 0 → ⊥) → behind (drop j w) (b ∷ s) ≡ absent
  unfolding behind
  behind_other b s h e = ap (λ (x : List ℕ). behind x (b ∷ s)) (word_drop h) ∙ rw (behind, ne_eqb b (get_or w j 0) e)

  behind_none : j < length w → behind (drop j w) [] ≡ absent
  unfolding behind
  behind_none h = ap (λ (x : List ℕ). behind x []) (word_drop h)

  behind_all : (s : List ℕ) → length w ≤ j → behind (drop j w) s ≡ is s
  unfolding behind
  behind_all s h = rw (drop_of_length-le w h)

-- j bytes of the word stand there, and the text goes on at `at`
pub record Spelling (laid : Laid) (s : List ℕ) (p : Spot) (w : List ℕ) (at j : ℕ) : Type 0 where
  pub is : behind w (view laid s p.at) ≡ behind (drop j w) (view laid s at)
  pub up : p.at + j ≤ at
  pub within : at ≤ length s
  pub upto : j ≤ length w
  pub total : j + length (view laid s at) ≡ length (view laid s p.at)

pub spell_start : (laid : Laid) (s : List ℕ) (p : Spot) (w : List ℕ) → Ready laid s p → Spelling laid s p w p.at 0
spell_start laid s p w h = record { is = refl; up = omega arith; within = h.within; upto = omega arith; total = omega arith }

module _ (laid : Laid) (s : List ℕ) (p : Spot) (w : List ℕ) (at j : ℕ) (g : Spelling laid s p w at j) where
  pub spell_done : Ready laid s p → 0 < length w → length w ≤ j → Reached laid s p (behind w (view laid s p.at)) (words.Past (spot at (p.off + j)))
  spell_done h l k =
      let t = g.total in
      let u = g.up in
      let b = h.below in
      record {
        by = record {
          is = g.is ∙ behind_all w j (view laid s at) k;
          past = record { up = omega arith; within = g.within; ahead = omega arith; below = omega arith; less = omega arith; total = omega arith };
        };
      }

  module _ (r : Peek) (h : Peeked laid s at r) (k : j < length w) where
    pub spell_none : r ≡ peek.End → Reached laid s p (behind w (view laid s p.at)) words.Other
    spell_none e = record { by = g.is ∙ ap (behind (drop j w)) (peek_none laid s at r h e) ∙ behind_none w j k }

    module _ (b n : ℕ) (e : r ≡ peek.Byte b n) where
      pub spell_other : (b ≡ get_or w j 0 → ⊥) → Reached laid s p (behind w (view laid s p.at)) words.Other
      spell_other f = record { by = g.is ∙ ap (behind (drop j w)) (peek_byte laid s at r h b n e).is ∙ behind_other w j b (view laid s n) k f }

      pub spell_more : b ≡ get_or w j 0 → Spelling laid s p w n (j + 1)
      spell_more f =
          let a = peek_byte laid s at r h b n e in
          let l = ap length a.is in
          let t = g.total in
          record {
            is = g.is ∙ ap (behind (drop j w)) a.is ∙ behind_same w j b (view laid s n) k f;
            up = omega (arith, g.up, a.up);
            within = a.within;
            upto = omega arith;
            total = omega arith;
          }

pub ruleset spelling = (spell_start, spell_done, spell_none, spell_other, spell_more, peek_within)

-- ---- classes

module _ (r t u : Bool) where
  pub either_first : r ≡ t → r ≡ true → true ≡ t || u
  either_first e q = rw (← e, q)

  pub either_second : (x : Bool) → r ≡ t → r ≡ false → x ≡ u → x ≡ t || u
  either_second x e q k = rw (← e, q) k

  pub both_first : r ≡ t → r ≡ false → false ≡ t && u
  both_first e q = rw (← e, q)

  pub both_second : (x : Bool) → r ≡ t → r ≡ true → x ≡ u → x ≡ t && u
  both_second x e q k = rw (← e, q) k

module _ (b c : ℕ) (u : Bool) where
  pub but_same : b ≡ c → false ≡ not (eqb b c) && u
  but_same e = rw (eq-eqb b c e)

  pub but_other : (x : Bool) → (b ≡ c → ⊥) → x ≡ u → x ≡ not (eqb b c) && u
  but_other x e k = rw (ne_eqb b c e) k

pub ruleset testing = (either_first, either_second, both_first, both_second, but_same, but_other)

module _ (k : Class) (b : ℕ) (r : Bool) where
  pub class_digits : k ≡ class.Digits → r ≡ digit b → r ≡ in_class k b
  class_digits e f = rw e f

  pub class_accession : k ≡ class.Accession → r ≡ in_accession b → r ≡ in_class k b
  class_accession e f = rw e f

  pub class_gap : k ≡ class.Gap → r ≡ in_gap b → r ≡ in_class k b
  class_gap e f = rw e f

pub ruleset classes = (class_digits, class_accession, class_gap)

-- ---- runs

-- the run goes on at `at`, which stands for `off`
pub record Running (c : ℕ → Bool) (laid : Laid) (s : List ℕ) (p : Spot) (at off : ℕ) : Type 0 where
  pub long : p.off + length (run c (view laid s p.at)) ≡ off + length (run c (view laid s at))
  pub rest : past c (view laid s p.at) ≡ past c (view laid s at)
  pub ready : Ready laid s (spot at off)
  pub onto : Onto laid s p (spot at off)

pub run_start : (c : ℕ → Bool) (laid : Laid) (s : List ℕ) (p : Spot) → Ready laid s p → Running c laid s p p.at p.off
run_start c laid s p h = record { long = refl; rest = refl; ready = h; onto = onto_here laid s p h }

module _ (k : Class) (laid : Laid) (s : List ℕ) (p : Spot) (at off : ℕ) (g : Running (in_class k) laid s p at off) (r : Peek) (h : Peeked laid s at r) where
  stopped : starts (in_class k) (view laid s at) ≡ false → Ran (in_class k) laid s p (spot at off)
  stopped e =
      record {
        long = g.long ∙ ap (λ (x : List ℕ). off + length x) (run_none (in_class k) (view laid s at) e) ∙ omega arith;
        rest = g.rest ∙ past_none (in_class k) (view laid s at) e;
        onto = g.onto;
      }

  pub run_end : r ≡ peek.End → Ran (in_class k) laid s p (spot at off)
  run_end e = stopped (ap (starts (in_class k)) (peek_none laid s at r h e))

  module _ (b n : ℕ) (e : r ≡ peek.Byte b n) (t : Bool) (m : t ≡ in_class k b) where
    pub run_stop : t ≡ false → Ran (in_class k) laid s p (spot at off)
    run_stop f = stopped (ap (starts (in_class k)) (peek_byte laid s at r h b n e).is ∙ sym m ∙ f)

    pub run_on : t ≡ true → Running (in_class k) laid s p n (off + 1)
    run_on f =
        let a = peek_byte laid s at r h b n e in
        let q = byte_past g.ready a in
        let y = sym m ∙ f in
        let l = ap (λ (x : List ℕ). length (run (in_class k) x)) a.is ∙ ap length (run_more (in_class k) b (view laid s n) y) in
        record {
          long = omega (arith, g.long, l);
          rest = g.rest ∙ ap (past (in_class k)) a.is ∙ past_more (in_class k) b (view laid s n) y;
          ready = record { within = q.within; short = g.ready.short; below = q.below };
          onto = record { up = omega (arith, g.onto.up, q.up); within = q.within; ahead = omega (arith, g.onto.ahead); below = q.below; total = q.total ∙ g.onto.total };
        }

pub ruleset running = (run_start, run_end, run_stop, run_on, peek_less)
