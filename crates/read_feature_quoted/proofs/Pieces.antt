-- A run of ordinary bytes with what ends it, as a piece of the value. Assumes nothing.
use Prim.Native.Nat.{ℕ, ◌+◌, ◌≤◌, ◌<◌}
use mathlib.Core.Path.{◌≡◌, refl, sym, subst, ◌∙◌}
use mathlib.Core.Bool.{Bool, true, false, not}
use mathlib.Core.List.{List, [], ◌∷◌, ◌++◌, append_assoc, append-nil}
use native.Mathlib.Omega.{arith}
use lib.ListN.{length, drop}
use Rattle.spec_format.specs.Readers.{got, tag, line_end, more}
use Rattle.spec_format.specs.Features.{escape, escaped, quoted_turn}
use Rattle.spec_loops.specs.Loops.{end_stops, end_noes, end_cuts}
use Rattle.spec_loops.proofs.Loops.{end_on}
use Rattle.spec_loops.proofs.Shrinks.{quoted_turn_small}
use Rattle.scan_bytes.specs.Places.{part}
use Rattle.scan_bytes.specs.Parts.{part_snoc}
use Rattle.scan_bytes.specs.Views.{Emptied}
use Rattle.scan_bytes.specs.Sequence.{empty_places}
use Rattle.scan_utf8.specs.States.{ascii}
use Rattle.scan_utf8.specs.Every.{all_on}
use Rattle.scan_bytes.specs.declared.Step.{Step}
use Rattle.scan_bytes.specs.declared.Step.TheVariants as step
use Rattle.read_feature_joined.specs.Taken.{taken, taken_more, taken_stop, taken_no, taken_cut}
use Rattle.read_feature_quoted.specs.declared.Escape.{Escape}
use Rattle.read_feature_quoted.specs.declared.Escape.TheVariants as escape'
use Rattle.read_feature_quoted.specs.declared.Turn.{Turn}
use Rattle.read_feature_quoted.specs.declared.Turn.TheVariants as turn
use Rattle.read_feature_quoted.specs.declared.Piece.TheVariants as piece
use Rattle.read_feature_quoted.specs.Escapes.{QuoteSpan, QuoteStep, Escaped, PastEscape, Known, Plain, closing, Closed, PastTurn, turn_of, Turned, feed_text, Pieced}
use Rattle.read_feature_quoted.proofs.Steps.{quote_is, quote_span}

-- ---- the closing quote

module _ (s : List ℕ) (at : ℕ) (r : Step) (h : QuoteStep s at (tag (34 ∷ []) (drop at s)) r) where
  pub closing_no : r ≡ step.No → Closed s at turn.No
  unfolding closing
  closing_no e = record { is = λ joined. rw (← h.is, e); place = tt }

  pub closing_cut : r ≡ step.Cut → Closed s at turn.Cut
  unfolding closing
  closing_cut e = record { is = λ joined. rw (← h.is, e); place = tt }

  module _ (n : ℕ) (e : r ≡ step.Got n) (q : Step) (g : Emptied s n (line_end (drop n s)) q) where
    pub closing_open : q ≡ step.No → Closed s at turn.No
    unfolding closing
    closing_open f = record { is = λ joined. rw (quote_is h e, ← g.is, f); place = tt }

    pub closing_unclear : q ≡ step.Cut → Closed s at turn.Cut
    unfolding closing
    closing_unclear f = record { is = λ joined. rw (quote_is h e, ← g.is, f); place = tt }

    pub closing_got : (m : ℕ) → q ≡ step.Got m → Closed s at (turn.Stop m)
    unfolding closing
    closing_got m f =
        let p = empty_places g f in let k = quote_span h e in
        record { is = λ joined. rw (quote_is h e, ← g.is, f); place = (let a = k.from in omega arith, p.1) }

pub ruleset closings = (closing_no, closing_cut, closing_open, closing_unclear, closing_got)

-- ---- escapes as turns

escaped_quote : (joined : Bool) → 34 ∷ [] ≡ escaped joined 34
escaped_quote true = refl
escaped_quote false = refl

module _ (s : List ℕ) (at indent : ℕ) (r : Escape) (h : Escaped s at (escape indent (drop at s)) r) where
  escape_place : (x : Escape) → r ≡ x → PastEscape s at x
  escape_place x e = subst (λ (y : Escape). PastEscape s at y) e h.place

  pub turn_quote : (n : ℕ) → r ≡ escape'.Quote n → Turned s at indent (turn.Quote n)
  turn_quote n e = record { is = λ joined. rw (← h.is, e, ← escaped_quote joined); place = escape_place (escape'.Quote n) e }

  pub turn_feed : (n : ℕ) → r ≡ escape'.Feed n → Turned s at indent (turn.Feed n)
  turn_feed n e = record { is = λ joined. rw (← h.is, e); place = escape_place (escape'.Feed n) e }

  pub turn_cut : r ≡ escape'.Cut → Turned s at indent turn.Cut
  turn_cut e = record { is = λ joined. rw (← h.is, e); place = tt }

  pub turn_closing : (x : Turn) → r ≡ escape'.No → Closed s at x → Turned s at indent x
  unfolding closing
  turn_closing x e c = record { is = λ joined. rw (← h.is, e) (c.is joined); place = c.place }

pub ruleset turns = (turn_quote, turn_feed, turn_cut, turn_closing)

-- ---- pieces

module _ (s : List ℕ) (at : ℕ) (joined : Bool) (indent e : ℕ) (low : Bool) (r : Turn) (g : Plain s at e) (known : Known s at e low) (h : Turned s e indent r) where
  turn_is : (x : Turn) → r ≡ x → quoted_turn joined indent (drop e s) ≡ turn_of s joined x
  turn_is x q = g.turn joined indent ∙ sym (h.is joined) ∙ rw q

  turn_place : (x : Turn) → r ≡ x → PastTurn s e x
  turn_place x q = subst (λ (y : Turn). PastTurn s e y) q h.place

  went_on : (a : List ℕ) (n : ℕ) → quoted_turn joined indent (drop e s) ≡ got (more a) (drop n s)
      → taken (quoted_turn joined indent) (drop at s) ≡ part at e s ++ (a ++ taken (quoted_turn joined indent) (drop n s))
  went_on a n q =
      g.runs.text joined indent ∙ rw (taken_more (quoted_turn joined indent) (drop e s) (quoted_turn_small joined indent) a (drop n s) q)

  went_off : taken (quoted_turn joined indent) (drop e s) ≡ [] → taken (quoted_turn joined indent) (drop at s) ≡ part at e s
  went_off q = g.runs.text joined indent ∙ rw q (append-nil (part at e s))

  pub piece_quote : (n : ℕ) → r ≡ turn.Quote n → Pieced s at joined indent (piece.On (e + 1) false n low)
  piece_quote n q =
      let p : QuoteSpan s e n = turn_place (turn.Quote n) q in
      let a = p.from in let b = p.within in let f = g.runs.from in
      let k : e < length s = omega arith in
      record {
        is =
            record {
              from = omega arith;
              within = omega arith;
              after = omega arith;
              below = b;
              short = omega arith;
              known =
                  record {
                    is = λ z. sym (all_on ascii s at e true true true f k (sym (known.is z)) (rw p.byte) refl);
                  };
              text =
                  went_on (34 ∷ []) n (turn_is (turn.Quote n) q) ∙
                  rw (part_snoc s at e f k, p.byte, append_assoc);
              ends = end_on (quoted_turn joined indent) (drop e s) _ (quoted_turn_small joined indent) (34 ∷ []) (drop n s) (g.runs.ends joined indent) (turn_is (turn.Quote n) q);
            };
      }

  feed_is : (x : Bool) → escaped x 10 ≡ feed_text (not x)
  feed_is true = refl
  feed_is false = refl

  feed_short : (x : Bool) → length (feed_text x) ≤ 1
  feed_short true = omega arith
  feed_short false = omega arith

  pub piece_feed : (n : ℕ) → r ≡ turn.Feed n → Pieced s at joined indent (piece.On e (not joined) n low)
  piece_feed n q =
      let p : (e < n) × (n ≤ length s) = turn_place (turn.Feed n) q in
      let f = g.runs.from in let l = feed_short (not joined) in
      record {
        is =
            record {
              from = f;
              within = g.runs.within;
              after = omega arith;
              below = p.1;
              short = omega arith;
              known = known;
              text = rw (← feed_is joined) (went_on (escaped joined 10) n (turn_is (turn.Feed n) q));
              ends = end_on (quoted_turn joined indent) (drop e s) _ (quoted_turn_small joined indent) (escaped joined 10) (drop n s) (g.runs.ends joined indent) (turn_is (turn.Feed n) q);
            };
      }

  pub piece_stop : (n : ℕ) → r ≡ turn.Stop n → Pieced s at joined indent (piece.Stop e n low)
  piece_stop n q =
      let p : (e < n) × (n ≤ length s) = turn_place (turn.Stop n) q in
      record {
        is = (
          record {
            from = g.runs.from;
            within = g.runs.within;
            text = went_off (taken_stop (quoted_turn joined indent) (drop e s) (drop n s) (turn_is (turn.Stop n) q));
            ends = end_stops (quoted_turn joined indent) (drop e s) _ (drop n s) (g.runs.ends joined indent) (turn_is (turn.Stop n) q);
          },
          p.0,
          p.1,
          known,
        );
      }

  pub piece_no : r ≡ turn.No → Pieced s at joined indent (piece.No e)
  piece_no q =
      record {
        is =
            record {
              from = g.runs.from;
              within = g.runs.within;
              text = went_off (taken_no (quoted_turn joined indent) (drop e s) (turn_is turn.No q));
              ends = end_noes (quoted_turn joined indent) (drop e s) _ (g.runs.ends joined indent) (turn_is turn.No q);
            };
      }

  pub piece_cut : r ≡ turn.Cut → Pieced s at joined indent (piece.Cut e)
  piece_cut q =
      record {
        is =
            record {
              from = g.runs.from;
              within = g.runs.within;
              text = went_off (taken_cut (quoted_turn joined indent) (drop e s) (turn_is turn.Cut q));
              ends = end_cuts (quoted_turn joined indent) (drop e s) _ (g.runs.ends joined indent) (turn_is turn.Cut q);
            };
      }

pub plain_within : (s : List ℕ) (at e : ℕ) → Plain s at e → e ≤ length s
plain_within s at e g = g.runs.within

pub ruleset pieces = (plain_within, piece_quote, piece_feed, piece_stop, piece_no, piece_cut)
