-- The laws of the scanning loops: each says what one turn, or a way out, makes of "the answer of the whole is the answer from here".
-- Assumes nothing.
use Prim.Native.Nat.{ℕ, zero, suc, ◌+◌, ◌-◌, ◌≤◌, ◌<◌}
use mathlib.Core.Path.{◌≡◌, refl, sym, ap, ◌∙◌}
use mathlib.Core.Bool.{Bool, true, false, not, ◌&&◌, ◌||◌}
use mathlib.Core.List.{List, [], ◌∷◌}
use native.Mathlib.Numerals.{add-one, sub-one}
use native.Mathlib.Nat.{add-zero, le_trans, not-suc-le-zero}
use native.Mathlib.Omega.{arith}
use borrow.Author.Tests.{lt-ltb, le-ltb, le-leb, lt-leb, eq-eqb, ne_eqb, eqb-true, eqb-false, leb-true, leb-false, ltb-true, ltb-false, not-false}
use lib.Dec.{eqb, leb, ltb}
use lib.ListN.{length, get_or, take, drop, drop_of_length-le}
use lib.Seq.{drop-cons, drop-drop}
use Rattle.spec_format.specs.Bytes.{pick, some, spaces}
use Rattle.spec_format.specs.Readers.{Ans, got, no, cut, tag, push, until, until1, line, line_end, line_feed}
use Rattle.scan_bytes.specs.declared.Step.{Step}
use Rattle.scan_bytes.specs.Places.{part, span, scan, Scanned, Passes, Spaced, Indented, line_stop, stop_at, stop_after}
use Rattle.scan_bytes.specs.Parts.{length_part, part_none}
use Rattle.scan_bytes.specs.Views.{Texted}
use Rattle.spec_format.specs.Impossible.{impossible}

-- ---- a scan, one byte at a time

module _ (p : ℕ → Bool) (s : List ℕ) (i : ℕ) where
  pub scan_more : i < length s → p (get_or s i 0) ≡ false → scan p s i ≡ scan p s (i + 1)
  unfolding span scan
  scan_more h e = rw (add-one, drop-cons s i 0, span, e) (omega arith)

  pub scan_stop : i < length s → p (get_or s i 0) ≡ true → scan p s i ≡ i
  unfolding span scan
  scan_stop h e = rw (drop-cons s i 0, span, e) (omega arith)

  pub scan_end : length s ≤ i → scan p s i ≡ i
  unfolding span scan
  scan_end h = rw (drop_of_length-le s h) (omega arith)

-- as the loops ask them; r is what the test's function returned
module _ (p : ℕ → Bool) (s : List ℕ) (at i : ℕ) where
  pub scan_on : (r : Bool) → scan p s at ≡ scan p s i → i < length s → r ≡ p (get_or s i 0) → r ≡ false → scan p s at ≡ scan p s (i + 1)
  scan_on r inv h e t = inv ∙ scan_more p s i h (sym e ∙ t)

  pub scan_out : (r : Bool) → scan p s at ≡ scan p s i → i < length s → r ≡ p (get_or s i 0) → r ≡ true → i ≡ scan p s at
  scan_out r inv h e t = sym (inv ∙ scan_stop p s i h (sym e ∙ t))

  pub scan_done : scan p s at ≡ scan p s i → length s ≤ i → i ≡ scan p s at
  scan_done inv h = sym (inv ∙ scan_end p s i h)

  pub scanned_on : (r : ℕ) → at ≤ i → scan p s at ≡ scan p s i → Scanned p s i r → Scanned p s at r
  scanned_on r h e w = record { is = w.is ∙ sym e; from = le_trans h w.from; within = w.within }

pub ruleset scanning = (scan_on, scan_out, scan_done)

-- a test by comparisons, or by tests that were called
module _ (r t u : Bool) where
  pub either_first : r ≡ t → r ≡ true → true ≡ t || u
  either_first e q = rw (← e, q)

  pub either_second : (x : Bool) → r ≡ t → r ≡ false → x ≡ u → x ≡ t || u
  either_second x e q k = rw (← e, q) k

pub ruleset tests = (lt-ltb, le-ltb, le-leb, lt-leb, eq-eqb, ne_eqb)

-- a block of bytes
module _ (p : ℕ → Bool) (s : List ℕ) (at : ℕ) where
  pub passes_none : Passes p s at 0 true
  passes_none = record { go = λ h. rw (add-zero at) }

and_first : (a b : Bool) → a && b ≡ true → a ≡ true
and_first true b e = refl
and_first false b e = e

and_second : (a b : Bool) → a && b ≡ true → b ≡ true
and_second true b e = e
and_second false b e = cc

-- a byte above CR is neither LF nor CR
above_stops : (b : ℕ) → ltb 13 b ≡ true → line_stop b ≡ false
above_stops b e = let l = ltb-true 13 b e in rw (ne_eqb b 10 (λ f. omega arith), ne_eqb b 13 (λ f. omega arith))

pub passes_over : (s : List ℕ) (at j : ℕ) (a b r : Bool) → at + j < length s → Passes line_stop s at j a → b ≡ ltb 13 (get_or s (at + j) 0) → r ≡ a && b → Passes line_stop s at (j + 1) r
passes_over s at j a b r h w m k =
    record {
      go = λ e.
          let f : at + j + 1 ≡ at + (j + 1) = omega arith in
          w.go (and_first a b (sym k ∙ e)) ∙ scan_more line_stop s (at + j) h (above_stops (get_or s (at + j) 0) (sym m ∙ and_second a b (sym k ∙ e))) ∙ ap (scan line_stop s) f;
    }

-- ---- what a scan's place says of readers

until_end : List ℕ → List ℕ → Ans (List ℕ)
until_end t [] = cut
until_end t (b ∷ s) = got t (b ∷ s)

push_end : (b : ℕ) (t s : List ℕ) → push b (until_end t s) ≡ until_end (b ∷ t) s
unfolding until_end
push_end b t [] = refl
push_end b t (c ∷ s) = refl

until_span : (p : ℕ → Bool) (s : List ℕ) → until p s ≡ until_end (take (span p s) s) (drop (span p s) s)
unfolding until span until_end
until_span p [] = refl
until_span p (b ∷ s) = go (until_span p s) (p b) refl
  where
    go : until p s ≡ until_end (take (span p s) s) (drop (span p s) s) → (x : Bool) → p b ≡ x
        → until p (b ∷ s) ≡ until_end (take (span p (b ∷ s)) (b ∷ s)) (drop (span p (b ∷ s)) (b ∷ s))
    go ih true e = rw (until, span, e)
    go ih false e = rw (until, span, e, ih) (push_end b (take (span p s) s) (drop (span p s) s))

module _ (p : ℕ → Bool) (s : List ℕ) (at e : ℕ) (w : Scanned p s at e) where
  scan_count : span p (drop at s) ≡ e - at
  unfolding scan
  scan_count = omega (arith, w.is)

  scan_rest : drop (span p (drop at s)) (drop at s) ≡ drop e s
  unfolding scan
  scan_rest = rw w.is (drop-drop (span p (drop at s)) at s)

  until_at : until p (drop at s) ≡ until_end (part at e s) (drop e s)
  until_at = until_span p (drop at s) ∙ rw (scan_rest, scan_count)

  until_cut : length s ≤ e → until p (drop at s) ≡ cut
  unfolding until_end
  until_cut h = until_at ∙ rw (drop_of_length-le s h)

  until_got : e < length s → until p (drop at s) ≡ got (part at e s) (drop e s)
  unfolding until_end
  until_got h = until_at ∙ rw (drop-cons s e 0)

some_long : (l : List ℕ) → 0 < length l → some l ≡ true
some_long [] h = absurd (not-suc-le-zero h)
some_long (b ∷ l) h = refl

part_some : (s : List ℕ) (at e : ℕ) → at < e → e ≤ length s → some (part at e s) ≡ true
part_some s at e h k = some_long (part at e s) (omega (arith, length_part s at e (omega arith) k))

flat : (e at : ℕ) → eqb e at ≡ true → e ≤ at
flat e at k = let q : e ≡ at = eqb-true e at k in omega arith

strict : {a b : ℕ} → a ≤ b → (b ≡ a → ⊥) → a < b
strict h k = omega arith

-- what was called to make a step of the scan's place
module _ (p : ℕ → Bool) (s : List ℕ) (at e : ℕ) (r : Step) (w : Scanned p s at e) where
  pub stop_until : r ≡ stop_at (length s) e → Texted s at (until p (drop at s)) r
  stop_until q = rw q (go (leb (length s) e) refl)
    where
      go : (x : Bool) → leb (length s) e ≡ x → Texted s at (until p (drop at s)) (stop_at (length s) e)
      go true h = rw h (record { is = sym (until_cut p s at e w (leb-true _ _ h)); place = tt })
      go false h = rw h (record { is = sym (until_got p s at e w (leb-false _ _ h)); place = (w.from, w.within) })

  pub stop_until1 : r ≡ stop_after (length s) at e → Texted s at (until1 p (drop at s)) r
  stop_until1 q = rw q (go (leb (length s) e) refl (eqb e at) refl)
    where
      go : (x : Bool) → leb (length s) e ≡ x → (y : Bool) → eqb e at ≡ y → Texted s at (until1 p (drop at s)) (stop_after (length s) at e)
      go true h y k = rw h (record { is = rw (until_cut p s at e w (leb-true _ _ h)); place = tt })
      go false h true k =
          rw (h, k) (record { is = rw (until_got p s at e w (leb-false _ _ h), part_none s at e (flat e at k)); place = tt })
      go false h false k =
          let n : at < e = strict w.from (eqb-false _ _ k) in
          rw (h, k) (record { is = rw (until_got p s at e w (leb-false _ _ h), part_some s at e n w.within); place = (w.from, w.within) })

-- ---- lines

line_cr : List ℕ → List ℕ → Ans (List ℕ)
line_cr t [] = cut
line_cr t (b ∷ s) = pick (eqb b 10) (got t s) no

line_stop_lem : List ℕ → List ℕ → Ans (List ℕ)
line_stop_lem t [] = cut
line_stop_lem t (b ∷ s) = pick (eqb b 10) (got t s) (line_cr t s)

push_cr : (b : ℕ) (t s : List ℕ) → push b (line_cr t s) ≡ line_cr (b ∷ t) s
unfolding line_cr
push_cr b t [] = refl
push_cr b t (c ∷ s) = go (eqb c 10)
  where
    go : (x : Bool) → push b (pick x (got t s) no) ≡ pick x (got (b ∷ t) s) no
    go true = refl
    go false = refl

push_stop : (b : ℕ) (t s : List ℕ) → push b (line_stop_lem t s) ≡ line_stop_lem (b ∷ t) s
unfolding line_stop_lem
push_stop b t [] = refl
push_stop b t (c ∷ s) = go (eqb c 10)
  where
    go : (x : Bool) → push b (pick x (got t s) (line_cr t s)) ≡ pick x (got (b ∷ t) s) (line_cr (b ∷ t) s)
    go true = refl
    go false = push_cr b t s

feed_cr : (s : List ℕ) → line_feed s ≡ line_cr [] s
unfolding line_cr
feed_cr [] = refl
feed_cr (b ∷ s) = refl

line_span : (s : List ℕ) → line s ≡ line_stop_lem (take (span line_stop s) s) (drop (span line_stop s) s)
unfolding line span line_stop_lem
line_span [] = refl
line_span (b ∷ s) = go (line_span s) (eqb b 10) refl (eqb b 13) refl
  where
    go : line s ≡ line_stop_lem (take (span line_stop s) s) (drop (span line_stop s) s) → (x : Bool) → eqb b 10 ≡ x → (y : Bool) → eqb b 13 ≡ y
        → line (b ∷ s) ≡ line_stop_lem (take (span line_stop (b ∷ s)) (b ∷ s)) (drop (span line_stop (b ∷ s)) (b ∷ s))
    go ih true e y f = rw (line, span, e) (rw e)
    go ih false e true f = rw (line, span, e, f) (rw e (feed_cr s))
    go ih false e false f = rw (line, span, e, f, ih) (push_stop b (take (span line_stop s) s) (drop (span line_stop s) s))

module _ (s : List ℕ) (at e : ℕ) (w : Scanned line_stop s at e) where
  line_from : line (drop at s) ≡ line_stop_lem (part at e s) (drop e s)
  line_from = line_span (drop at s) ∙ rw (scan_rest line_stop s at e w, scan_count line_stop s at e w)

  pub line_unended : length s ≤ e → cut ≡ line (drop at s)
  unfolding line_stop_lem
  line_unended h = rw (line_from, drop_of_length-le s h)

  pub line_lf : e < length s → get_or s e 0 ≡ 10 → got (part at e s) (drop (e + 1) s) ≡ line (drop at s)
  unfolding line_stop_lem
  line_lf h q = rw (line_from, drop-cons s e 0, eq-eqb _ 10 q, add-one)

  after_stop : e < length s → (get_or s e 0 ≡ 10 → ⊥) → line (drop at s) ≡ line_cr (part at e s) (drop (e + 1) s)
  unfolding line_stop_lem
  after_stop h q = rw (line_from, drop-cons s e 0, ne_eqb _ 10 q, add-one)

  pub line_cr_unended : e < length s → (get_or s e 0 ≡ 10 → ⊥) → length s ≤ e + 1 → cut ≡ line (drop at s)
  unfolding line_cr
  line_cr_unended h q k = rw (after_stop h q, drop_of_length-le s k)

  pub line_crlf : e < length s → (get_or s e 0 ≡ 10 → ⊥) → e + 1 < length s → get_or s (e + 1) 0 ≡ 10 → got (part at e s) (drop (e + 1 + 1) s) ≡ line (drop at s)
  unfolding line_cr
  line_crlf h q k z = rw (after_stop h q, drop-cons s (e + 1) 0, eq-eqb _ 10 z, add-one)

  pub line_stray : e < length s → (get_or s e 0 ≡ 10 → ⊥) → e + 1 < length s → (get_or s (e + 1) 0 ≡ 10 → ⊥) → no ≡ line (drop at s)
  unfolding line_cr
  line_stray h q k z = rw (after_stop h q, drop-cons s (e + 1) 0, ne_eqb _ 10 z)

pub ruleset lining = (line_unended, line_lf, line_cr_unended, line_crlf, line_stray)

module _ (s : List ℕ) (at : ℕ) where
  pub end_cut : length s ≤ at → cut ≡ line_end (drop at s)
  unfolding line_end
  end_cut h = rw (drop_of_length-le s h)

  pub end_lf : at < length s → get_or s at 0 ≡ 10 → got [] (drop (at + 1) s) ≡ line_end (drop at s)
  unfolding line_end
  end_lf h q = rw (drop-cons s at 0, line_end, eq-eqb _ 10 q, add-one)

  pub end_no : at < length s → (get_or s at 0 ≡ 10 → ⊥) → (get_or s at 0 ≡ 13 → ⊥) → no ≡ line_end (drop at s)
  unfolding line_end
  end_no h q k = rw (drop-cons s at 0, line_end, ne_eqb _ 10 q, ne_eqb _ 13 k)

  end_cr : at < length s → get_or s at 0 ≡ 13 → line_end (drop at s) ≡ line_feed (drop (at + 1) s)
  unfolding line_end
  end_cr h k = rw (drop-cons s at 0, line_end, ne_eqb (get_or s at 0) 10 (λ z. omega arith), eq-eqb _ 13 k, add-one)

  pub end_cr_cut : at < length s → get_or s at 0 ≡ 13 → length s ≤ at + 1 → cut ≡ line_end (drop at s)
  end_cr_cut h k l = rw (end_cr h k, drop_of_length-le s l)

  pub end_crlf : at < length s → get_or s at 0 ≡ 13 → at + 1 < length s → get_or s (at + 1) 0 ≡ 10 → got [] (drop (at + 1 + 1) s) ≡ line_end (drop at s)
  end_crlf h k l z = rw (end_cr h k, drop-cons s (at + 1) 0, eq-eqb _ 10 z, add-one)

  pub end_stray : at < length s → get_or s at 0 ≡ 13 → at + 1 < length s → (get_or s (at + 1) 0 ≡ 10 → ⊥) → no ≡ line_end (drop at s)
  end_stray h k l z = rw (end_cr h k, drop-cons s (at + 1) 0, ne_eqb _ 10 z)

pub ruleset ending = (end_cut, end_lf, end_no, end_cr_cut, end_crlf, end_stray)

-- ---- words and indents, byte by byte

module _ (s w : List ℕ) (i j : ℕ) (o : Ans Unit) where
  pub tag_go : o ≡ tag (drop j w) (drop i s) → j < length w → i < length s → get_or s i 0 ≡ get_or w j 0 → o ≡ tag (drop (j + 1) w) (drop (i + 1) s)
  unfolding tag
  tag_go inv hj hi e = inv ∙ rw (add-one i, add-one j, drop-cons s i 0, drop-cons w j 0, tag, eq-eqb _ _ e)

  pub tag_no : o ≡ tag (drop j w) (drop i s) → j < length w → i < length s → (get_or s i 0 ≡ get_or w j 0 → ⊥) → no ≡ o
  unfolding tag
  tag_no inv hj hi e = sym (inv ∙ rw (drop-cons s i 0, drop-cons w j 0, tag, ne_eqb _ _ e))

  pub tag_cut : o ≡ tag (drop j w) (drop i s) → j < length w → length s ≤ i → cut ≡ o
  unfolding tag
  tag_cut inv hj hi = sym (inv ∙ rw (drop-cons w j 0, drop_of_length-le s hi))

  pub tag_got : o ≡ tag (drop j w) (drop i s) → length w ≤ j → got tt (drop i s) ≡ o
  unfolding tag
  tag_got inv hj = sym (inv ∙ rw (drop_of_length-le w hj))

pub ruleset tagging = (tag_go, tag_no, tag_cut, tag_got)

module _ (s : List ℕ) (i : ℕ) (o : Ans Unit) where
  pub spaces_go : (k : ℕ) → o ≡ tag (spaces k) (drop i s) → 0 < k → i < length s → get_or s i 0 ≡ 32 → o ≡ tag (spaces (k - 1)) (drop (i + 1) s)
  unfolding tag
  spaces_go zero inv q h e = absurd (not-suc-le-zero q)
  spaces_go (suc k) inv q h e = inv ∙ rw (sub-one, add-one, drop-cons s i 0, tag, eq-eqb _ 32 e)

  pub spaces_no : (k : ℕ) → o ≡ tag (spaces k) (drop i s) → 0 < k → i < length s → (get_or s i 0 ≡ 32 → ⊥) → no ≡ o
  unfolding tag
  spaces_no zero inv q h e = absurd (not-suc-le-zero q)
  spaces_no (suc k) inv q h e = sym (inv ∙ rw (drop-cons s i 0, tag, ne_eqb _ 32 e))

  pub spaces_cut : (k : ℕ) → o ≡ tag (spaces k) (drop i s) → 0 < k → length s ≤ i → cut ≡ o
  unfolding tag
  spaces_cut zero inv q h = absurd (not-suc-le-zero q)
  spaces_cut (suc k) inv q h = sym (inv ∙ rw (drop_of_length-le s h))

  pub spaces_got : (k : ℕ) → o ≡ tag (spaces k) (drop i s) → k ≤ 0 → got tt (drop i s) ≡ o
  unfolding tag
  spaces_got zero inv q = sym inv
  spaces_got (suc k) inv q = absurd (not-suc-le-zero q)

pub ruleset spacing = (spaces_go, spaces_no, spaces_cut, spaces_got)

-- ---- blocks of spaces

pub spaced_none : (s : List ℕ) (at : ℕ) → Spaced s at 0 true
spaced_none s at = record { go = λ e j h. absurd (not-suc-le-zero h) }

pub spaced_one : (s : List ℕ) (at j : ℕ) (a b r : Bool) → Spaced s at j a → b ≡ eqb (get_or s (at + j) 0) 32 → r ≡ a && b → Spaced s at (j + 1) r
spaced_one s at j a b r w m k = record { go = λ e i h. go e i h (ltb i j) refl }
  where
    go : r ≡ true → (i : ℕ) → i < j + 1 → (x : Bool) → ltb i j ≡ x → get_or s (at + i) 0 ≡ 32
    go e i h true f = w.go (and_first a b (sym k ∙ e)) i (ltb-true i j f)
    go e i h false f =
        let g : i ≡ j = omega (arith, ltb-false i j f) in
        rw g (eqb-true _ 32 (sym m ∙ and_second a b (sym k ∙ e)))

module _ (s : List ℕ) where
  -- n spaces, each known
  spaces_all : (n i : ℕ) → i + n ≤ length s → ((j : ℕ) → j < n → get_or s (i + j) 0 ≡ 32) → tag (spaces n) (drop i s) ≡ got tt (drop (i + n) s)
  unfolding tag
  spaces_all zero i h k = rw (add-zero i)
  spaces_all (suc n) i h k =
      let e : get_or s i 0 ≡ 32 = rw (add-zero i) at (k 0 (omega arith)) in
      let f : i + 1 + n ≡ i + suc n = omega arith in
      let next : (j : ℕ) → j < n → get_or s (i + 1 + j) 0 ≡ 32 = λ j h. let g : i + 1 + j ≡ i + suc j = omega arith in rw g (k (suc j) (omega arith)) in
      let d : suc n - 1 ≡ n = omega arith in
      rw d at (spaces_go s i (tag (spaces (suc n)) (drop i s)) (suc n) refl (omega arith) (omega arith) e) ∙ rw f at (spaces_all n (i + 1) (omega arith) next)

  -- the first 16 and the last 16 of n
  pub both_ends : (at n : ℕ) (a r : Bool) → 16 ≤ n → n ≤ 32 → at + n ≤ length s → Spaced s at 16 a → not a ≡ false → Spaced s (at + (n - 16)) 16 r → Indented s at n r
  both_ends at n a r h k l x p y = record { go = λ e. sym (spaces_all n at l (λ j m. each e j m (ltb j 16) refl)); within = λ e. l }
    where
      each : r ≡ true → (j : ℕ) → j < n → (q : Bool) → ltb j 16 ≡ q → get_or s (at + j) 0 ≡ 32
      each e j m true f = x.go (not-false a p) j (ltb-true j 16 f)
      each e j m false f =
          let o : j - (n - 16) < 16 = omega (arith, ltb-false j 16 f) in
          let g : at + (n - 16) + (j - (n - 16)) ≡ at + j = omega (arith, ltb-false j 16 f) in
          rw g at (y.go e (j - (n - 16)) o)

pub unindented : (s : List ℕ) (at n : ℕ) → Indented s at n false
unindented s at n = record { go = λ e. cc; within = λ e. impossible cc }
