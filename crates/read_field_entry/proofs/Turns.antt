-- Further lines one by one, and a text made of its first line and of them. Assumes nothing.
use Prim.Native.Nat.{ℕ, ◌+◌, ◌-◌, ◌≤◌, ◌<◌}
use mathlib.Core.Path.{◌≡◌, refl, sym, ap, ◌∙◌}
use mathlib.Core.Bool.{Bool, true, false}
use mathlib.Core.List.{List, [], ◌∷◌, ◌++◌, append_assoc, append-nil}
use native.Mathlib.Omega.{arith}
use lib.ListN.{length, drop, length-append}
use Rattle.spec_format.specs.Readers.{Ans, got, no, cut, bind, mapped, line}
use Rattle.spec_format.specs.Header.{line_after, further_line, field_text}
use Rattle.scan_bytes.specs.declared.Step.{Step}
use Rattle.scan_bytes.specs.declared.Step.TheVariants as step
use Rattle.scan_bytes.specs.declared.Line.{Line}
use Rattle.scan_bytes.specs.declared.Line.TheVariants as line'
use Rattle.scan_bytes.specs.Places.{part}
use Rattle.scan_bytes.specs.Parts.{length_part}
use Rattle.scan_bytes.specs.Views.{Stepped, Lined}
use Rattle.scan_bytes.specs.Sequence.{step_places, line_places, line_is}
use Rattle.scan_utf8.specs.declared.State.{State}
use Rattle.scan_utf8.specs.States.{start, Ran, ran_none, ran_append}
use Rattle.read_field_entry.specs.declared.Piece.TheVariants as piece
use Rattle.read_field_entry.specs.declared.Joined.{Joined}
use Rattle.read_field_entry.specs.declared.Joined.TheVariants as joined
use Rattle.read_field_entry.specs.Lines.{further_more, further_stop, further_cut, text_further}
use Rattle.read_field_entry.specs.Texts.{further, grown_by, Pieced, PastPiece, ReadAs, Joins}

-- ---- a further line

module _ (s : List ℕ) (at : ℕ) (o : Ans Unit) (r : Step) (f : Unit → List ℕ → Ans (List ℕ)) where
  pub piece_no : Stepped s at o r → r ≡ step.No → Pieced s at (bind o f) piece.No
  piece_no h e = record { is = rw (← h.is, e); place = tt }

  pub piece_cut : Stepped s at o r → r ≡ step.Cut → Pieced s at (bind o f) piece.Cut
  piece_cut h e = record { is = rw (← h.is, e); place = tt }

  module _ (a : ℕ) (q : Line) (h : Stepped s at o r) (e : r ≡ step.Got a) (l : Lined s a (f tt (drop a s)) q) where
    pub piece_line_no : q ≡ line'.No → Pieced s at (bind o f) piece.No
    piece_line_no k = record { is = rw (← h.is, e, ← l.is, k); place = tt }

    pub piece_line_cut : q ≡ line'.Cut → Pieced s at (bind o f) piece.Cut
    piece_line_cut k = record { is = rw (← h.is, e, ← l.is, k); place = tt }

    pub piece_got : (end next : ℕ) → q ≡ line'.Got end next → Pieced s at (bind o f) (piece.Got a end next)
    piece_got end next k =
        let p = step_places h e in
        let w = line_places l k in
        record { is = rw (← h.is, e, ← l.is, k); place = (omega arith, omega arith, omega arith, omega arith) }

pub ruleset piecing = (piece_no, piece_cut, piece_line_no, piece_line_cut, piece_got)

pub line_kept : (u v w : State) (keep : Bool) (l : List ℕ) → keep ≡ true → Ran u (10 ∷ []) v → Ran v l w → Ran u (line_after keep l) w
line_kept u v w keep l e p q = rw e (ran_append u v w (10 ∷ []) l p q)

pub line_plain : (u w : State) (keep : Bool) (l : List ℕ) → keep ≡ false → Ran u l w → Ran u (line_after keep l) w
line_plain u w keep l e q = rw e q

-- the answer of the whole is `text` and the answer from here
pub record Reading (o rest : Ans (List ℕ)) (u v : State) (before size : ℕ) : Type 0 where
  pub text : List ℕ
  pub is : o ≡ mapped (λ m. text ++ m) rest
  pub sized : size ≡ before + length text
  pub ran : Ran u text v

mapped_none : (o : Ans (List ℕ)) → o ≡ mapped (λ m. [] ++ m) o
mapped_none (got t r) = refl
mapped_none no = refl
mapped_none cut = refl

mapped_twice : (o : Ans (List ℕ)) (x y : List ℕ) → mapped (λ m. x ++ m) (mapped (λ m. y ++ m) o) ≡ mapped (λ m. (x ++ y) ++ m) o
mapped_twice (got t r) x y = ap (λ (l : List ℕ). got l r) (sym (append_assoc x y t))
mapped_twice no x y = refl
mapped_twice cut x y = refl

pub reading_start : (o : Ans (List ℕ)) (u : State) (before : ℕ) → Reading o o u u before before
reading_start o u before = record { text = []; is = mapped_none o; sized = omega arith; ran = ran_none u }

grown_length : (keep : Bool) (size k n : ℕ) (l : List ℕ) → length l ≡ n → k ≡ grown_by keep size n → k ≡ size + length (line_after keep l)
grown_length true size k n l e q = omega (arith, q, e)
grown_length false size k n l e q = omega (arith, q, e)

pub grown_small : (keep : Bool) (s : List ℕ) (size at front i k f e n : ℕ) → PastPiece s i (piece.Got f e n) → size + at ≤ front + i → k ≡ grown_by keep size (e - f) → k + at ≤ front + n
grown_small true s size at front i k f e n p h q = omega (arith, q)
grown_small false s size at front i k f e n p h q = omega (arith, q)

module _ (n : ℕ) (keep : Bool) (o : Ans (List ℕ)) (u v : State) (before size : ℕ) (xs : List ℕ) (now : Reading o (further n keep xs) u v before size) where
  pub reading_more : (l ys : List ℕ) (w : State) (d k : ℕ) → further_line n xs ≡ got l ys → Ran v (line_after keep l) w → length l ≡ d → k ≡ grown_by keep size d
      → Reading o (further n keep ys) u w before k
  reading_more l ys w d k e j q g =
      record {
        text = now.text ++ line_after keep l;
        is = now.is ∙ rw (further_more n keep xs l ys e) (mapped_twice (further n keep ys) now.text (line_after keep l));
        sized = omega (arith, grown_length keep size k d l q g, length-append now.text (line_after keep l), now.sized);
        ran = ran_append u v w now.text (line_after keep l) now.ran j;
      }

  pub reading_cut : (s : List ℕ) (at : ℕ) → further_line n xs ≡ cut → Joins s at o u before joined.Cut
  reading_cut s at e = record { is = now.is ∙ rw (further_cut n keep xs e) }

pub reading_stop : (n : ℕ) (keep : Bool) (o : Ans (List ℕ)) (u v : State) (before size : ℕ) (s : List ℕ) (at i : ℕ) → Reading o (further n keep (drop i s)) u v before size
    → further_line n (drop i s) ≡ no → at ≤ i → i ≤ length s → size + at ≤ before + i → Joins s at o u before (joined.Got size i v)
reading_stop n keep o u v before size s at i now e p q k =
    record {
      is = record {
        the = now.text;
        is = now.is ∙ rw (further_stop n keep (drop i s) e) (ap (λ (l : List ℕ). got l (drop i s)) (append-nil now.text));
        sized = now.sized;
        ran = now.ran;
        from = p;
        within = q;
        small = k;
      };
    }

-- ---- a text

module _ (n : ℕ) (keep : Bool) (s : List ℕ) (at : ℕ) (r : Line) (h : Lined s at (line (drop at s)) r) where
  pub text_no : r ≡ line'.No → Joins s at (field_text n keep (drop at s)) start 0 joined.No
  unfolding field_text
  text_no e = record { is = rw (← h.is, e) }

  pub text_cut : r ≡ line'.Cut → Joins s at (field_text n keep (drop at s)) start 0 joined.Cut
  unfolding field_text
  text_cut e = record { is = rw (← h.is, e) }

  pub text_got : (end next : ℕ) (j : State) (q : Joined) → r ≡ line'.Got end next → Ran start (part at end s) j
      → Joins s next (further n keep (drop next s)) j (end - at) q → Joins s at (field_text n keep (drop at s)) start 0 q
  text_got end next j q e k w = record { is = go q w.is }
    where
      p : (at ≤ end) × (end < next) × (next ≤ length s)
      p = line_places h e

      f : field_text n keep (drop at s) ≡ mapped (λ m. part at end s ++ m) (further n keep (drop next s))
      f = text_further n keep (drop at s) (part at end s) (drop next s) (line_is h e)

      go : (q : Joined) → ReadAs s next (further n keep (drop next s)) j (end - at) q → ReadAs s at (field_text n keep (drop at s)) start 0 q
      go (joined.Got size z v) w =
          let l = p in
          let g : length (part at end s) ≡ end - at = length_part s at end (omega arith) (omega arith) in
          record {
            the = part at end s ++ w.the;
            is = f ∙ rw w.is;
            sized = omega (arith, w.sized, g, length-append (part at end s) w.the);
            ran = ran_append start j v (part at end s) w.the k w.ran;
            from = omega (arith, w.from);
            within = w.within;
            small = omega (arith, w.small);
          }
      go joined.No w = f ∙ rw w
      go joined.Cut w = f ∙ rw w
