-- Runs of ordinary bytes in a quoted value. Assumes nothing.
use Prim.Native.Nat.{ℕ, ◌+◌, ◌≤◌, ◌<◌}
use mathlib.Core.Path.{◌≡◌, refl, sym, ◌∙◌}
use mathlib.Core.Bool.{Bool, true, false, ◌&&◌, ◌||◌}
use mathlib.Core.List.{List, [], ◌∷◌, append_assoc}
use native.Mathlib.Omega.{arith}
use native.Mathlib.Nat.{le_refl, add-zero}
use native.Mathlib.Numerals.{add-one}
use borrow.Author.Tests.{eq-eqb, ne_eqb, eqb-true, lt-ltb, le-ltb, ltb-true}
use lib.Dec.{eqb, ltb}
use lib.ListN.{length, get_or, drop, drop_of_length-le}
use lib.Seq.{drop-cons}
use Rattle.spec_format.specs.Readers.{got, tag, more, end}
use Rattle.spec_format.specs.Features.{special, escape, quoted_turn}
use Rattle.spec_loops.proofs.Loops.{end_more}
use Rattle.spec_loops.proofs.Shrinks.{quoted_turn_small}
use Rattle.scan_bytes.specs.Parts.{part_none, part_snoc, part_append}
use Rattle.scan_utf8.specs.States.{ascii}
use Rattle.scan_utf8.specs.Every.{all_on}
use Rattle.read_feature_joined.specs.Taken.{taken_more}
use Rattle.read_feature_quoted.specs.Escapes.{Runs, AsciiRuns, Onward, Plain, PlainRun}

pub ruleset tests = (eq-eqb, ne_eqb, lt-ltb, le-ltb)

ordinary : (joined : Bool) (indent : ℕ) (s : List ℕ) (i : ℕ) → i < length s → special (get_or s i 0) ≡ false
    → quoted_turn joined indent (drop i s) ≡ got (more (get_or s i 0 ∷ [])) (drop (i + 1) s)
unfolding quoted_turn
ordinary joined indent s i h e = rw (drop-cons s i 0, e, add-one)

module _ (s : List ℕ) (at : ℕ) where
  pub runs_none : at ≤ length s → Runs s at at
  runs_none h =
      record {
        from = le_refl at;
        within = h;
        text = λ joined indent. rw (part_none s at at (le_refl at));
        ends = λ joined indent. refl;
      }

  module _ (i : ℕ) (r : Bool) (g : Runs s at i) where
    pub runs_on : i < length s → r ≡ special (get_or s i 0) → r ≡ false → Runs s at (i + 1)
    runs_on h e f =
        let k = g.from in
        record {
          from = omega arith;
          within = omega arith;
          text = λ joined indent.
              g.text joined indent ∙
              rw (
                taken_more (quoted_turn joined indent) (drop i s) (quoted_turn_small joined indent) (get_or s i 0 ∷ []) (drop (i + 1) s) (ordinary joined indent s i h (sym e ∙ f)),
                part_snoc s at i k h,
                append_assoc,
              );
          ends = λ joined indent.
              g.ends joined indent ∙
              end_more (quoted_turn joined indent) (quoted_turn_small joined indent) (drop i s) (get_or s i 0 ∷ []) (drop (i + 1) s) (ordinary joined indent s i h (sym e ∙ f));
        }

    pub plain_stop : i < length s → r ≡ special (get_or s i 0) → r ≡ true → Plain s at i
    unfolding quoted_turn
    plain_stop h e f =
        let k : special (get_or s i 0) ≡ true = sym e ∙ f in record { runs = g; turn = λ joined indent. rw (drop-cons s i 0, k) }

  pub plain_cut : (i : ℕ) → Runs s at i → length s ≤ i → Plain s at i
  unfolding quoted_turn escape tag
  plain_cut i g h = record { runs = g; turn = λ joined indent. rw (drop_of_length-le s h) }

-- ---- blocks

ordinary_plain : (b : ℕ) → (ltb 34 b || eqb b 32) ≡ true → special b ≡ false
ordinary_plain b h = go (ltb 34 b) refl
  where
    go : (x : Bool) → ltb 34 b ≡ x → special b ≡ false
    go true e =
        let l = ltb-true 34 b e in
        rw (ne_eqb b 34 (λ f. omega arith), ne_eqb b 13 (λ f. omega arith), ne_eqb b 10 (λ f. omega arith))
    go false e = let f : eqb b 32 ≡ true = rw e at h in rw (eqb-true b 32 f)

module _ (s : List ℕ) (at : ℕ) where
  pub ascii_none : at ≤ length s → AsciiRuns s at at
  ascii_none h = record { runs = runs_none s at h; known = rw (part_none s at at (le_refl at)) }

  module _ (i : ℕ) (g : AsciiRuns s at i) where
    pub ascii_on : (r : Bool) → i < length s → r ≡ special (get_or s i 0) → r ≡ false → get_or s i 0 < 128 → AsciiRuns s at (i + 1)
    ascii_on r h e f l =
        record {
          runs = runs_on s at i r g.runs h e f;
          known = sym (all_on ascii s at i true true true g.runs.from h (sym g.known) (sym (lt-ltb (get_or s i 0) 128 l)) refl);
        }

    pub ascii_stop : (r : Bool) → i < length s → r ≡ special (get_or s i 0) → r ≡ true → PlainRun s at (record { end = i; ascii = true })
    ascii_stop r h e f = record { plain = plain_stop s at i r g.runs h e f; known = record { is = λ z. g.known } }

    pub ascii_cut : length s ≤ i → PlainRun s at (record { end = i; ascii = true })
    ascii_cut h = record { plain = plain_cut s at i g.runs h; known = record { is = λ z. g.known } }

    runs_append : (e : ℕ) → Runs s i e → Runs s at e
    runs_append e h =
        let a = g.runs.from in let b = h.from in
        record {
          from = omega arith;
          within = h.within;
          text = λ joined indent. g.runs.text joined indent ∙ rw (h.text joined indent, part_append s at e i a b, append_assoc);
          ends = λ joined indent. g.runs.ends joined indent ∙ h.ends joined indent;
        }

    pub ascii_past : (e : ℕ) → Plain s i e → PlainRun s at (record { end = e; ascii = false })
    ascii_past e h = record { plain = record { runs = runs_append e h.runs; turn = h.turn }; known = record { is = λ z. cc } }

module _ (s : List ℕ) (i : ℕ) where
  pub onward_none : Onward s i 0 true
  onward_none = record { go = λ e at g. rw (add-zero i) g }

  module _ (j : ℕ) (h : i + j < length s) where
    pub onward_one : (a b c d r : Bool) → Onward s i j a → b ≡ (ltb 34 (get_or s (i + j) 0) || eqb (get_or s (i + j) 0) 32) → c ≡ ascii (get_or s (i + j) 0) → d ≡ b && c → r ≡ a && d
        → Onward s i (j + 1) r
    onward_one a b c d r w m l u k =
        let f : i + (j + 1) ≡ i + j + 1 = omega arith in
        record {
          go = λ e at g.
              let v : b && c ≡ true = sym u ∙ right a d (sym k ∙ e) in
              rw f
              (ascii_on s at (i + j) (w.go (left a d (sym k ∙ e)) at g) false h
              (sym (ordinary_plain (get_or s (i + j) 0) (sym m ∙ left b c v))) refl
              (ltb-true (get_or s (i + j) 0) 128 (sym l ∙ right b c v)));
        }
      where
        left : (a b : Bool) → a && b ≡ true → a ≡ true
        left true b e = refl
        left false b e = e

        right : (a b : Bool) → a && b ≡ true → b ≡ true
        right true b e = e
        right false b e = cc

pub ruleset plains = (runs_none, runs_on, plain_stop, plain_cut, ascii_none, ascii_on, ascii_stop, ascii_cut, ascii_past)
