-- A whole bare text: its first line and the further ones, its tests, and its way into a room. Assumes nothing.
use Prim.Native.Nat.{ℕ, ◌+◌, ◌-◌, ◌≤◌}
use mathlib.Core.Path.{◌≡◌, refl, sym, ◌∙◌}
use mathlib.Core.Bool.{Bool, true, false}
use mathlib.Core.List.{List, ◌++◌}
use native.Mathlib.Omega.{arith}
use lib.ListN.{length, drop, length-append}
use lib.Dec.{eqb}
use Rattle.spec_format.specs.Bytes.{concat}
use Rattle.spec_format.specs.Utf8.{utf8}
use Rattle.spec_format.specs.Readers.{Ans, got, no, cut, bind, mapped, passing, utf8_of, line, loop, end}
use Rattle.spec_format.specs.Features.{bare_more, bare}
use Rattle.spec_loops.proofs.Shrinks.{bare_more_small}
use Rattle.scan_bytes.specs.Places.{part}
use Rattle.scan_bytes.specs.Parts.{length_part}
use Rattle.scan_bytes.specs.Views.{Lined}
use Rattle.scan_bytes.specs.Sequence.{line_places, line_is}
use Rattle.scan_bytes.specs.declared.Line.{Line}
use Rattle.scan_bytes.specs.declared.Line.TheVariants as line'
use Rattle.read_feature_joined.specs.Taken.{taken, gathered, taken_more, taken_stop, taken_no, taken_cut, left_piece, left_none}
use Rattle.read_feature_joined.specs.Views.{Valued, passing_got, passing_no}
use Rattle.read_feature_joined.specs.declared.Value.TheVariants as value
use Rattle.base_pen.specs.Pen.{Writes, Left, left_start, writes_append, writes_nil}
use Rattle.scan_utf8.specs.declared.State.{State}
use Rattle.scan_utf8.specs.States.{start, Ran, ran_append, ran_utf8}
use Rattle.read_feature_bare.specs.declared.Further.{Further}
use Rattle.read_feature_bare.specs.declared.Further.TheVariants as further
use Rattle.read_feature_bare.specs.declared.Bare.{Bare}
use Rattle.read_feature_bare.specs.declared.Bare.TheVariants as bare'
use Rattle.read_feature_bare.specs.Bared.{bare_text, Furthered, Bared, bared_is, bared_span, bared_places}
use Rattle.read_feature_bare.proofs.Lines.{further_places, further_is}

-- ---- places of a line

module _ (s : List ℕ) (at : ℕ) (o : Ans (List ℕ)) (l : Line) (e n : ℕ) (h : Lined s at o l) (q : l ≡ line'.Got e n) where
  pub line_long : at ≤ e
  line_long = (line_places h q).0

  pub line_ended : e ≤ length s
  line_ended = let p = line_places h q in omega arith

  pub line_short : e - at ≤ n
  line_short = let p = line_places h q in omega arith

-- ---- the first line

module _ (s : List ℕ) (at indent : ℕ) (l : Line) where
  pub bare_line : {first z : List ℕ} → line (drop at s) ≡ got first z → bare indent (drop at s) ≡ mapped (λ t. first ++ t) (gathered (bare_more indent) z)
  unfolding bare gathered
  bare_line {first} {z} e = rw e (go (loop (bare_more indent) z))
    where
      go : (o : Ans (List (List ℕ))) → bind o (λ rest r. got (first ++ concat rest) r) ≡ mapped (λ t. first ++ t) (bind o (λ pieces r. got (concat pieces) r))
      go (got a r) = refl
      go no = refl
      go cut = refl

  pub text_line : {first z : List ℕ} → line (drop at s) ≡ got first z → bare_text indent (drop at s) ≡ first ++ taken (bare_more indent) z
  unfolding bare_text
  text_line e = rw e

  pub first_no : Lined s at (line (drop at s)) l → l ≡ line'.No → Bared s at 0 start (bare_text indent (drop at s)) (bare indent (drop at s)) bare'.No
  unfolding bare
  first_no h q = record { is = rw (← h.is, q); place = tt }

  pub first_cut : Lined s at (line (drop at s)) l → l ≡ line'.Cut → Bared s at 0 start (bare_text indent (drop at s)) (bare indent (drop at s)) bare'.Cut
  unfolding bare
  first_cut h q = record { is = rw (← h.is, q); place = tt }

  pub first_got : (e n : ℕ) (u v : State) (r : Bare)
      → Lined s at (line (drop at s)) l → l ≡ line'.Got e n → u ≡ start → Ran u (part at e s) v
      → Bared s n (e - at) v (taken (bare_more indent) (drop n s)) (gathered (bare_more indent) (drop n s)) r
      → Bared s at 0 start (bare_text indent (drop at s)) (bare indent (drop at s)) r
  first_got e n u v r h q g a b =
      rw (text_line (line_is h q), bare_line (line_is h q)) (go r b)
    where
      t : List ℕ
      t = taken (bare_more indent) (drop n s)

      go : (r : Bare) → Bared s n (e - at) v t (gathered (bare_more indent) (drop n s)) r
          → Bared s at 0 start (part at e s ++ t) (mapped (λ x. part at e s ++ x) (gathered (bare_more indent) (drop n s))) r
      go (bare'.Got c m w) b =
          let p = line_places h q in
          let z : e ≤ length s = omega arith in
          let x : length (part at e s) ≡ e - at = length_part s at e p.0 z in
          let f = b.place.from in let y = b.place.short in let d = b.place.long in
          record {
            is = rw (← b.is);
            place =
                record {
                  from = omega arith;
                  within = b.place.within;
                  long = omega (arith, length-append (part at e s) t);
                  short = omega arith;
                  ran = ran_append start v w (part at e s) t (rw g at a) b.place.ran;
                };
          }
      go bare'.No b = record { is = rw (← b.is); place = tt }
      go bare'.Cut b = record { is = rw (← b.is); place = tt }

pub ruleset firsts = (line_long, line_ended, line_short, first_no, first_cut, first_got)

-- ---- the tests

module _ (s : List ℕ) (at indent : ℕ) (r : Bare) (h : Bared s at 0 start (bare_text indent (drop at s)) (bare indent (drop at s)) r) where
  bared_no : (p : List ℕ → Bool) → r ≡ bare'.No → Valued s at (bare_text indent (drop at s)) (passing p (bare indent (drop at s))) value.No
  bared_no p q = record { is = rw (← h.is, q); place = tt }

  bared_cut : (p : List ℕ → Bool) → r ≡ bare'.Cut → Valued s at (bare_text indent (drop at s)) (passing p (bare indent (drop at s))) value.Cut
  bared_cut p q = record { is = rw (← h.is, q); place = tt }

  module _ (n next : ℕ) (state : State) (q : r ≡ bare'.Got n next state) where
    passed : (p : List ℕ → Bool) → p (bare_text indent (drop at s)) ≡ true
        → Valued s at (bare_text indent (drop at s)) (passing p (bare indent (drop at s))) (value.Got n next)
    passed p e = record { is = passing_got p (bared_is h q) e; place = bared_places s at indent r n next state h q }

    failed : (p : List ℕ → Bool) → p (bare_text indent (drop at s)) ≡ false
        → Valued s at (bare_text indent (drop at s)) (passing p (bare indent (drop at s))) value.No
    failed p e = record { is = passing_no p (bared_is h q) e; place = tt }

    pub text_valid : (ok : Bool) → ok ≡ eqb state.more 0 → ok ≡ true → Valued s at (bare_text indent (drop at s)) (utf8_of (bare indent (drop at s))) (value.Got n next)
    text_valid ok e v = passed utf8 (ran_utf8 _ state (bared_span h q).ran ∙ sym e ∙ v)

    pub text_invalid : (ok : Bool) → ok ≡ eqb state.more 0 → ok ≡ false → Valued s at (bare_text indent (drop at s)) (utf8_of (bare indent (drop at s))) value.No
    text_invalid ok e v = failed utf8 (ran_utf8 _ state (bared_span h q).ran ∙ sym e ∙ v)

  pub text_no : r ≡ bare'.No → Valued s at (bare_text indent (drop at s)) (utf8_of (bare indent (drop at s))) value.No
  text_no q = bared_no utf8 q

  pub text_cut : r ≡ bare'.Cut → Valued s at (bare_text indent (drop at s)) (utf8_of (bare indent (drop at s))) value.Cut
  text_cut q = bared_cut utf8 q

pub ruleset texts = (text_valid, text_invalid, text_no, text_cut)

-- ---- into a room

-- the further lines from i on are still to be put
pub record Putting (s : List ℕ) (at indent : ℕ) (old : List ℕ) (place : ℕ) (i : ℕ) (room : List ℕ) (p : ℕ) : Type 0 where
  pub within : i ≤ length s
  pub same : length room ≡ length old
  pub left : Left old place (taken (bare_more indent) (drop at s)) room p (taken (bare_more indent) (drop i s))

module _ (s : List ℕ) (at indent : ℕ) (old : List ℕ) (place : ℕ) where
  pub putting_none : at ≤ length s → Putting s at indent old place at old place
  putting_none h = record { within = h; same = refl; left = left_start }

  module _ (i : ℕ) (room : List ℕ) (p : ℕ) (r : Further) where
    pub putting_on : (from end next : ℕ) (new : List ℕ) (k : ℕ)
        → Putting s at indent old place i room p → Furthered s i (bare_more indent (drop i s)) r → r ≡ further.Line from end next
        → Writes room p (part from end s) new k → length new ≡ length room → Putting s at indent old place next new k
    putting_on from end next new k g h e w l =
        let q = further_places h e in
        record {
          within = q.within;
          same = l ∙ g.same;
          left =
              left_piece (part from end s) (taken (bare_more indent) (drop next s)) g.left
              (taken_more (bare_more indent) (drop i s) (bare_more_small indent) (part from end s) (drop next s) (further_is h e))
              w;
        }

    pub putting_stop : Putting s at indent old place i room p → Furthered s i (bare_more indent (drop i s)) r → r ≡ further.Stop
        → Writes old place (taken (bare_more indent) (drop at s)) room p
    putting_stop g h e = left_none g.left (taken_stop (bare_more indent) (drop i s) (drop i s) (further_is h e))

    pub putting_no : Putting s at indent old place i room p → Furthered s i (bare_more indent (drop i s)) r → r ≡ further.No
        → Writes old place (taken (bare_more indent) (drop at s)) room p
    putting_no g h e = left_none g.left (taken_no (bare_more indent) (drop i s) (further_is h e))

    pub putting_cut : Putting s at indent old place i room p → Furthered s i (bare_more indent (drop i s)) r → r ≡ further.Cut
        → Writes old place (taken (bare_more indent) (drop at s)) room p
    putting_cut g h e = left_none g.left (taken_cut (bare_more indent) (drop i s) (further_is h e))

pub ruleset puttings = (putting_none, putting_on, putting_stop, putting_no, putting_cut)

module _ (s : List ℕ) (at indent : ℕ) (l : Line) (old : List ℕ) (place : ℕ) where
  pub put_got : (e n : ℕ) (room : List ℕ) (p : ℕ) (new : List ℕ) (k : ℕ)
      → Lined s at (line (drop at s)) l → l ≡ line'.Got e n → Writes old place (part at e s) room p → Writes room p (taken (bare_more indent) (drop n s)) new k
      → Writes old place (bare_text indent (drop at s)) new k
  put_got e n room p new k h q a b = rw (text_line s at indent l (line_is h q)) (writes_append a b)

  pub put_no : Lined s at (line (drop at s)) l → l ≡ line'.No → Writes old place (bare_text indent (drop at s)) old place
  unfolding bare_text
  put_no h q = rw (← h.is, q) writes_nil

  pub put_cut : Lined s at (line (drop at s)) l → l ≡ line'.Cut → Writes old place (bare_text indent (drop at s)) old place
  unfolding bare_text
  put_cut h q = rw (← h.is, q) writes_nil

pub ruleset puts = (put_got, put_no, put_cut)
