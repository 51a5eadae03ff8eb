-- The loops over the pieces of a quoted value, and the whole of it. Assumes nothing.
use Prim.Native.Nat.{ℕ, ◌+◌, ◌-◌, ◌≤◌, ◌<◌}
use mathlib.Core.Path.{◌≡◌, refl, sym, subst, ◌∙◌}
use mathlib.Core.Bool.{Bool, true, false}
use mathlib.Core.List.{List, [], ◌∷◌, ◌++◌, append_assoc, append-nil}
use native.Mathlib.Omega.{arith}
use lib.ListN.{length, drop, length-append}
use lib.Dec.{eqb}
use borrow.Author.Tests.{eqb-true}
use Rattle.spec_format.specs.Utf8.{utf8}
use Rattle.spec_format.specs.Readers.{Ans, got, no, cut, utf8_of, tag, end}
use Rattle.spec_format.specs.Features.{quoted_turn, quoted}
use Rattle.scan_bytes.specs.Places.{part}
use Rattle.scan_bytes.specs.Parts.{length_part}
use Rattle.scan_bytes.specs.declared.Step.{Step}
use Rattle.scan_bytes.specs.declared.Step.TheVariants as step
use Rattle.read_feature_joined.specs.Taken.{taken, gathered, gathered_got, gathered_no, gathered_cut, SoFar, so_none, so_more, so_size, so_ran, left_piece, left_none}
use Rattle.read_feature_joined.specs.Views.{Valued, passing_got, passing_no}
use Rattle.read_feature_joined.specs.declared.Value.{Value}
use Rattle.read_feature_joined.specs.declared.Value.TheVariants as value
use Rattle.base_pen.specs.Pen.{Writes, Left, left_start, writes_append, writes_nil, writes_as}
use Rattle.scan_utf8.proofs.Chars.{ascii_ran}
use Rattle.scan_utf8.specs.declared.State.{State}
use Rattle.scan_utf8.specs.States.{start, Ran, ran_none, ran_append, ran_utf8}
use Rattle.read_feature_quoted.specs.declared.Piece.{Piece}
use Rattle.read_feature_quoted.specs.declared.Piece.TheVariants as piece
use Rattle.read_feature_quoted.specs.Escapes.{QuoteStep, Known, feed_text, GoesOn, GoesOff, PieceIs, Pieced, quoted_text}
use Rattle.read_feature_quoted.proofs.Steps.{quote_is, quote_span}

pub known_ran : (s : List ℕ) (from to : ℕ) (low : Bool) (u : State) (ends : Bool) (v : State) → Known s from to low → low ≡ true → ends ≡ eqb u.more 0 → ends ≡ true → v ≡ start
    → Ran u (part from to s) v
known_ran s from to low u ends v h e k f w = ascii_ran u (part from to s) true v (eqb-true u.more 0 (sym k ∙ f)) (sym (h.is e)) refl w

pub fed_none : (u : State) (feed : Bool) → feed ≡ false → Ran u (feed_text feed) u
fed_none u feed e = rw e (ran_none u)

pub fed_one : (u r : State) (feed : Bool) → feed ≡ true → Ran u (10 ∷ []) r → Ran u (feed_text feed) r
fed_one u r feed e h = rw e h

pub put_none : (l : List ℕ) (i : ℕ) (feed : Bool) → feed ≡ false → Writes l i (feed_text feed) l i
put_none l i feed e = rw e writes_nil

pub put_one : (l m : List ℕ) (i k : ℕ) (feed : Bool) → feed ≡ true → Writes l i (10 ∷ []) m k → Writes l i (feed_text feed) m k
put_one l m i k feed e h = rw e h

pub ruleset feds = (fed_none, fed_one, put_none, put_one)

-- ---- what a loop asks of a piece

module _ {s : List ℕ} {at : ℕ} {joined : Bool} {indent : ℕ} {r : Piece} (h : Pieced s at joined indent r) where
  piece_is : {x : Piece} → r ≡ x → PieceIs s at joined indent x
  piece_is {x} e = subst (λ (y : Piece). PieceIs s at joined indent y) e h.is

module _ (s : List ℕ) (at : ℕ) (joined : Bool) (indent : ℕ) (r : Piece) (h : Pieced s at joined indent r) where
  module _ (to : ℕ) (feed : Bool) (next : ℕ) (low : Bool) (e : r ≡ piece.On to feed next low) where
    pub on_from : at ≤ to
    on_from = let p : GoesOn s at joined indent to feed next low = piece_is h e in p.from

    pub on_within : to ≤ length s
    on_within = let p : GoesOn s at joined indent to feed next low = piece_is h e in p.within

    pub on_known : Known s at to low
    on_known = let p : GoesOn s at joined indent to feed next low = piece_is h e in p.known

    pub on_less : length s - next < length s - at
    on_less = let p : GoesOn s at joined indent to feed next low = piece_is h e in let a = p.after in let b = p.below in omega arith

  module _ (to next : ℕ) (low : Bool) (e : r ≡ piece.Stop to next low) where
    stop_off : GoesOff s at joined indent to (got tt (drop next s)) × (to < next) × (next ≤ length s) × Known s at to low
    stop_off = piece_is h e

    pub stop_from : at ≤ to
    stop_from = stop_off.0.from

    pub stop_within : to ≤ length s
    stop_within = stop_off.0.within

    pub stop_known : Known s at to low
    stop_known = stop_off.3

  module _ (to : ℕ) (e : r ≡ piece.No to) where
    pub no_from : at ≤ to
    no_from = let p : GoesOff s at joined indent to no = piece_is h e in p.from

    pub no_within : to ≤ length s
    no_within = let p : GoesOff s at joined indent to no = piece_is h e in p.within

  module _ (to : ℕ) (e : r ≡ piece.Cut to) where
    pub cut_from : at ≤ to
    cut_from = let p : GoesOff s at joined indent to cut = piece_is h e in p.from

    pub cut_within : to ≤ length s
    cut_within = let p : GoesOff s at joined indent to cut = piece_is h e in p.within

pub ruleset places = (on_from, on_within, on_known, on_less, stop_from, stop_within, stop_known, no_from, no_within, cut_from, cut_within)

-- ---- the scan

-- the scan has come from `at` to i, and passed n bytes of the text
pub record Going (s : List ℕ) (at : ℕ) (joined : Bool) (indent i n : ℕ) (state : State) : Type 0 where
  pub from : at ≤ i
  pub within : i ≤ length s
  pub short : n + at ≤ i
  pub ends : end (quoted_turn joined indent) (drop at s) ≡ end (quoted_turn joined indent) (drop i s)
  pub so : SoFar (taken (quoted_turn joined indent) (drop at s)) n start state (taken (quoted_turn joined indent) (drop i s))

module _ (s : List ℕ) (at : ℕ) (joined : Bool) (indent : ℕ) where
  pub going_none : (u : State) → at ≤ length s → u ≡ start → Going s at joined indent at 0 u
  going_none u h e = record { from = omega arith; within = h; short = omega arith; ends = refl; so = rw e (so_none _ start) }

  module _ (i n : ℕ) (state : State) (r : Piece) (g : Going s at joined indent i n state) (h : Pieced s i joined indent r) where
    module _ (to : ℕ) (feed : Bool) (next : ℕ) (low : Bool) (e : r ≡ piece.On to feed next low) (k : ℕ) (l : k ≡ length (feed_text feed)) where
      sum_fits : n + (to - i + k) + at ≤ next
      sum_fits =
          let p : GoesOn s i joined indent to feed next low = piece_is h e in
          let a = p.from in let b = p.short in let c = g.short in let d = g.from in omega arith

      pub sum_within : n + (to - i + k) ≤ length s
      sum_within = let p : GoesOn s i joined indent to feed next low = piece_is h e in let a = sum_fits in let b = p.below in omega arith

      pub going_on : (u w : State) → Ran state (part i to s) u → Ran u (feed_text feed) w → Going s at joined indent next (n + (to - i + k)) w
      going_on u w a b =
          let p : GoesOn s i joined indent to feed next low = piece_is h e in
          let c = g.from in let d = p.after in
          let x : length (part i to s) ≡ to - i = length_part s i to p.from p.within in
          let y : length (part i to s ++ feed_text feed) ≡ to - i + k = length-append (part i to s) (feed_text feed) ∙ rw (x, l) in
          record {
            from = omega arith;
            within = p.below;
            short = sum_fits;
            ends = g.ends ∙ p.ends;
            so =
                rw y at
                (so_more (part i to s ++ feed_text feed) (taken (quoted_turn joined indent) (drop next s)) g.so
                (p.text ∙ sym (append_assoc (part i to s) (feed_text feed) _))
                (ran_append state u w (part i to s) (feed_text feed) a b));
          }

    module _ (to next : ℕ) (low : Bool) (e : r ≡ piece.Stop to next low) where
      last_fits : n + (to - i) + at < next
      last_fits =
          let p = stop_off s i joined indent r h to next low e in
          let a = p.0.from in let b = p.1 in let c = g.short in let d = g.from in omega arith

      module _ (u : State) (a : Ran state (part i to s) u) (ok : Bool) (k : ok ≡ eqb u.more 0) where
        done : SoFar (taken (quoted_turn joined indent) (drop at s)) (n + (to - i)) start u []
        done =
            let p = stop_off s i joined indent r h to next low e in
            let x : length (part i to s) ≡ to - i = length_part s i to p.0.from p.0.within in
            rw x at (so_more (part i to s) [] g.so (p.0.text ∙ sym (append-nil (part i to s))) a)

        scanned : gathered (quoted_turn joined indent) (drop at s) ≡ got (taken (quoted_turn joined indent) (drop at s)) (drop next s)
        scanned = gathered_got (quoted_turn joined indent) (drop at s) (drop next s) (g.ends ∙ (stop_off s i joined indent r h to next low e).0.ends)

        valid : utf8 (taken (quoted_turn joined indent) (drop at s)) ≡ ok
        valid = ran_utf8 _ u (so_ran done refl) ∙ sym k

        pub going_stop : ok ≡ true
            → Valued s at (taken (quoted_turn joined indent) (drop at s)) (utf8_of (gathered (quoted_turn joined indent) (drop at s))) (value.Got (n + (to - i)) next)
        going_stop t =
            let p = stop_off s i joined indent r h to next low e in
            let b = p.1 in let c = last_fits in let d = g.from in let f = p.0.from in
            record {
              is = passing_got utf8 scanned (valid ∙ t);
              place = record { from = omega arith; within = p.2; long = so_size done refl; short = omega arith };
            }

        pub going_bad : ok ≡ false
            → Valued s at (taken (quoted_turn joined indent) (drop at s)) (utf8_of (gathered (quoted_turn joined indent) (drop at s))) value.No
        going_bad t = record { is = passing_no utf8 scanned (valid ∙ t); place = tt }

    pub going_no : (to : ℕ) → r ≡ piece.No to
        → Valued s at (taken (quoted_turn joined indent) (drop at s)) (utf8_of (gathered (quoted_turn joined indent) (drop at s))) value.No
    going_no to e =
        let p : GoesOff s i joined indent to no = piece_is h e in
        record { is = rw (gathered_no (quoted_turn joined indent) (drop at s) (g.ends ∙ p.ends)); place = tt }

    pub going_cut : (to : ℕ) → r ≡ piece.Cut to
        → Valued s at (taken (quoted_turn joined indent) (drop at s)) (utf8_of (gathered (quoted_turn joined indent) (drop at s))) value.Cut
    going_cut to e =
        let p : GoesOff s i joined indent to cut = piece_is h e in
        record { is = rw (gathered_cut (quoted_turn joined indent) (drop at s) (g.ends ∙ p.ends)); place = tt }

pub ruleset goings = (going_none, going_on, going_stop, going_bad, going_no, going_cut)

-- ---- into a room

pub record Putting (s : List ℕ) (at : ℕ) (joined : Bool) (indent : ℕ) (old : List ℕ) (place : ℕ) (i : ℕ) (room : List ℕ) (p : ℕ) : Type 0 where
  pub within : i ≤ length s
  pub same : length room ≡ length old
  pub left : Left old place (taken (quoted_turn joined indent) (drop at s)) room p (taken (quoted_turn joined indent) (drop i s))

module _ (s : List ℕ) (at : ℕ) (joined : Bool) (indent : ℕ) (old : List ℕ) (place : ℕ) where
  pub putting_none : at ≤ length s → Putting s at joined indent old place at old place
  putting_none h = record { within = h; same = refl; left = left_start }

  module _ (i : ℕ) (room : List ℕ) (p : ℕ) (r : Piece) (g : Putting s at joined indent old place i room p) (h : Pieced s i joined indent r) where
    pub putting_on : (to : ℕ) (feed : Bool) (next : ℕ) (low : Bool) (mid : List ℕ) (q : ℕ) (new : List ℕ) (k : ℕ) → r ≡ piece.On to feed next low
        → Writes room p (part i to s) mid q → length mid ≡ length room → Writes mid q (feed_text feed) new k → length new ≡ length mid
        → Putting s at joined indent old place next new k
    putting_on to feed next low mid q new k e a b c d =
        let f : GoesOn s i joined indent to feed next low = piece_is h e in
        record {
          within = f.below;
          same = d ∙ b ∙ g.same;
          left =
              left_piece (part i to s ++ feed_text feed) (taken (quoted_turn joined indent) (drop next s)) g.left
              (f.text ∙ sym (append_assoc (part i to s) (feed_text feed) _))
              (writes_append a c);
        }

    put_last : (to : ℕ) (o : Ans Unit) (new : List ℕ) (k : ℕ) → GoesOff s i joined indent to o
        → Writes room p (part i to s) new k → Writes old place (taken (quoted_turn joined indent) (drop at s)) new k
    put_last to o new k f w = left_none (left_piece (part i to s) [] g.left (f.text ∙ sym (append-nil (part i to s))) w) refl

    module _ (to : ℕ) (new : List ℕ) (k : ℕ) (w : Writes room p (part i to s) new k) where
      pub putting_stop : (next : ℕ) (low : Bool) → r ≡ piece.Stop to next low → Writes old place (taken (quoted_turn joined indent) (drop at s)) new k
      putting_stop next low e = put_last to _ new k (stop_off s i joined indent r h to next low e).0 w

      pub putting_no : r ≡ piece.No to → Writes old place (taken (quoted_turn joined indent) (drop at s)) new k
      putting_no e = put_last to no new k (piece_is h e) w

      pub putting_cut : r ≡ piece.Cut to → Writes old place (taken (quoted_turn joined indent) (drop at s)) new k
      putting_cut e = put_last to cut new k (piece_is h e) w

pub ruleset puttings = (putting_none, putting_on, putting_stop, putting_no, putting_cut)

-- ---- the whole value

module _ (s : List ℕ) (at : ℕ) (joined : Bool) (indent : ℕ) (r : Step) (h : QuoteStep s at (tag (34 ∷ []) (drop at s)) r) where
  pub value_no : r ≡ step.No → Valued s at (quoted_text joined indent (drop at s)) (utf8_of (quoted joined indent (drop at s))) value.No
  unfolding quoted
  value_no e = record { is = rw (← h.is, e); place = tt }

  pub value_cut : r ≡ step.Cut → Valued s at (quoted_text joined indent (drop at s)) (utf8_of (quoted joined indent (drop at s))) value.Cut
  unfolding quoted
  value_cut e = record { is = rw (← h.is, e); place = tt }

  module _ (n : ℕ) (e : r ≡ step.Got n) where
    whole : quoted joined indent (drop at s) ≡ gathered (quoted_turn joined indent) (drop n s)
    unfolding quoted gathered
    whole = rw (quote_is h e)

    text : quoted_text joined indent (drop at s) ≡ taken (quoted_turn joined indent) (drop n s)
    unfolding quoted_text
    text = rw (quote_is h e)

    pub value_got : (x : Value) → Valued s n (taken (quoted_turn joined indent) (drop n s)) (utf8_of (gathered (quoted_turn joined indent) (drop n s))) x
        → Valued s at (quoted_text joined indent (drop at s)) (utf8_of (quoted joined indent (drop at s))) x
    value_got x v = rw (whole, text) (go x v)
      where
        t : List ℕ
        t = taken (quoted_turn joined indent) (drop n s)

        go : (x : Value) → Valued s n t (utf8_of (gathered (quoted_turn joined indent) (drop n s))) x
            → Valued s at t (utf8_of (gathered (quoted_turn joined indent) (drop n s))) x
        go (value.Got l m) v =
            let p = quote_span h e in let q = v.place in
            let a = p.from in let b = q.from in let c = q.short in
            record { is = v.is; place = record { from = omega arith; within = q.within; long = q.long; short = omega arith } }
        go value.No v = record { is = v.is; place = tt }
        go value.Cut v = record { is = v.is; place = tt }

    pub put_got : (old : List ℕ) (place : ℕ) (new : List ℕ) (k : ℕ) → Writes old place (taken (quoted_turn joined indent) (drop n s)) new k
        → Writes old place (quoted_text joined indent (drop at s)) new k
    put_got old place new k w = writes_as (sym text) w

  pub put_no : (old : List ℕ) (place : ℕ) → r ≡ step.No → Writes old place (quoted_text joined indent (drop at s)) old place
  unfolding quoted_text
  put_no old place e = rw (← h.is, e) writes_nil

  pub put_cut : (old : List ℕ) (place : ℕ) → r ≡ step.Cut → Writes old place (quoted_text joined indent (drop at s)) old place
  unfolding quoted_text
  put_cut old place e = rw (← h.is, e) writes_nil

pub ruleset values = (value_no, value_cut, value_got)

pub ruleset puts = (put_got, put_no, put_cut)
