-- Bytes that are letters or skipped, one at a time and in groups: the steps of the loops over them.
use Prim.Native.Nat.{ℕ, zero, suc, ◌+◌, ◌-◌, ◌≤◌, ◌<◌}
use mathlib.Core.Path.{◌≡◌, refl, sym, ap, subst, ◌∙◌}
use mathlib.Core.Bool.{Bool, true, false, not, ◌&&◌}
use mathlib.Core.List.{List, [], ◌∷◌, ◌++◌, append-nil}
use native.Mathlib.Numerals.{add-one}
use native.Mathlib.Nat.{add-zero, add-suc}
use native.Mathlib.Omega.{arith}
use borrow.Author.Tests.{eq-eqb, ne_eqb, eqb-true, not-true, not-false}
use lib.Dec.{eqb}
use lib.ListN.{length, take, drop, get_or, set, length-append, length-drop, drop_of_length-le}
use lib.Seq.{drop-cons, take_all, take-suc, take-suc-set, get_or-drop, length-take-le}
use Rattle.spec_bases.specs.Bases.{set_of, coded}
use Rattle.spec_format.specs.Bytes.{letter, digit}
use Rattle.scan_bases.specs.Common.{common, common_coded}
use Rattle.spec_format.specs.Origin.{skipped}
use Rattle.base_pen.specs.Pen.{Writes, Left, left_step, left_as, left_end}
use Rattle.read_letters.specs.Runs.{taken, letters_by, Tally, slash, end, bad, tally, plus, sifted, Run, Runs, Skips, run_none, run_append, tally_keeps, Counts, PastCounted, one, count_in, spaced, ten, thirty_of, sixty_of}
use Rattle.spec_strict.specs.Skipped.{and_both, skipped_none, not_slash_lem}
use Rattle.read_letters.specs.Switch.{taken_letter, not_taken}
use Rattle.read_letters.specs.declared.Counted.{Counted}
use Rattle.read_letters.specs.declared.Counted.TheVariants as counted
use Rattle.spec_format.specs.Impossible.{impossible}

pub drop_more : (s : List ℕ) (i : ℕ) → i < length s → drop i s ≡ get_or s i 0 ∷ drop (i + 1) s
drop_more s i h = rw (add-one, drop-cons s i 0)

module _ (strict : Bool) (s : List ℕ) (i : ℕ) (h : i < length s) where
  pub run_letter : taken strict (get_or s i 0) ≡ true → Run strict s i (i + 1) (get_or s i 0 ∷ [])
  unfolding letters_by sifted
  run_letter e = record { all = rw (drop_more s i h, letters_by, e); text = rw (drop_more s i h, sifted, taken_letter strict (get_or s i 0) e) }

  pub run_skip : skipped (get_or s i 0) ≡ true → Run strict s i (i + 1) []
  unfolding letters_by sifted
  run_skip g =
      let e = skipped_none (get_or s i 0) g in
      let f = not_slash_lem (get_or s i 0) g in
      record { all = rw (drop_more s i h, letters_by, not_taken strict (get_or s i 0) e, f, g); text = rw (drop_more s i h, sifted, e, f, g) }

-- a block of skipped bytes, byte by byte: r is what `both` made of the bytes up to here and the next one's test
pub skips_more : (s : List ℕ) (at j : ℕ) (a b r : Bool) → r ≡ (a && b) → at + j < length s → Skips s at (at + j) a → b ≡ skipped (get_or s (at + j) 0) → Skips s at (at + (j + 1)) r
skips_more s at j a b r k h w m =
    record {
      go = λ e strict.
          let both = and_both a b (sym k ∙ e) in
          let f : at + (j + 1) ≡ at + j + 1 = omega arith in
          rw f (run_append (w.go both.0 strict) (run_skip strict s (at + j) h (sym m ∙ both.1)));
    }

pub skips_none : (s : List ℕ) (at : ℕ) → Skips s at (at + 0) true
skips_none s at = record { go = λ e strict. rw (add-zero at) (run_none strict s at) }

pub skips_false : {s : List ℕ} {at to : ℕ} → Skips s at to false
skips_false = record { go = λ e. impossible cc }

pub runs_false : {strict : Bool} {s : List ℕ} {at to : ℕ} {w : List ℕ} → Runs strict s at to w false
runs_false = record { go = λ e. impossible cc }

-- the loops that count
module _ (strict : Bool) (s : List ℕ) (i k : ℕ) (o : Tally) where
  plus_plus : (x : Tally) (m : ℕ) → plus k (plus m x) ≡ plus (k + m) x
  plus_plus (slash n r) m = ap (λ (j : ℕ). slash j r) (omega arith)
  plus_plus (end n) m = ap end (omega arith)
  plus_plus (bad r) m = refl

  pub count_run : (to : ℕ) (w : List ℕ) → Run strict s i to w → o ≡ plus k (tally (letters_by strict (drop i s))) → o ≡ plus (k + length w) (tally (letters_by strict (drop to s)))
  count_run to w r inv = inv ∙ ap (plus k) (ap tally r.all ∙ tally_keeps w (letters_by strict (drop to s))) ∙ plus_plus (tally (letters_by strict (drop to s))) (length w)

  module _ (inv : o ≡ plus k (tally (letters_by strict (drop i s)))) where
    pub count_letter : (r : Bool) → i < length s → r ≡ taken strict (get_or s i 0) → r ≡ true → o ≡ plus (k + 1) (tally (letters_by strict (drop (i + 1) s)))
    count_letter r h e f = count_run (i + 1) (get_or s i 0 ∷ []) (run_letter strict s i h (sym e ∙ f)) inv

    pub count_skip : (q : Bool) → i < length s → q ≡ skipped (get_or s i 0) → not q ≡ false → o ≡ plus k (tally (letters_by strict (drop (i + 1) s)))
    count_skip q h e f = rw (← add-zero k) (count_run (i + 1) [] (run_skip strict s i h (sym e ∙ not-false q f)) inv)

    pub count_feed : i < length s → get_or s i 0 ≡ 10 → o ≡ plus k (tally (letters_by strict (drop (i + 1) s)))
    count_feed h e = rw (← add-zero k) (count_run (i + 1) [] (run_skip strict s i h (rw e)) inv)

    pub count_slash : (r : Bool) → i < length s → r ≡ taken strict (get_or s i 0) → r ≡ false → get_or s i 0 ≡ 47 → slash k (drop i s) ≡ o
    unfolding letters_by
    count_slash r h e f g = sym (inv ∙ rw (drop_more s i h, letters_by, ← e, f, eq-eqb _ _ g) (ap (λ (j : ℕ). slash j (get_or s i 0 ∷ drop (i + 1) s)) (add-zero k)))

    pub count_bad : (r q : Bool) → i < length s → r ≡ taken strict (get_or s i 0) → r ≡ false → (get_or s i 0 ≡ 47 → ⊥) → q ≡ skipped (get_or s i 0) → not q ≡ true → bad (drop i s) ≡ o
    unfolding letters_by
    count_bad r q h e f g m n = sym (inv ∙ rw (drop_more s i h, letters_by, ← e, f, ne_eqb _ _ g, ← m, not-true q n))

    pub count_end : length s ≤ i → end k ≡ o
    unfolding letters_by
    count_end h = sym (inv ∙ rw (drop_of_length-le s h) (ap end (add-zero k)))

pub length_ten : (s : List ℕ) (at : ℕ) → at + 10 ≤ length s → length (ten s at) ≡ 10
length_ten s at h = length-take-le 10 (drop at s) (rw (length-drop at s) (omega arith))

pub length_sixty : (s : List ℕ) (at : ℕ) → at + 76 ≤ length s → length (sixty_of s at) ≡ 60
length_sixty s at h =
    simp length-append
    (omega (
      arith,
      length_ten s (at + 9 + 1) (omega arith),
      length_ten s (at + 9 + 12) (omega arith),
      length_ten s (at + 9 + 23) (omega arith),
      length_ten s (at + 42 + 1) (omega arith),
      length_ten s (at + 42 + 12) (omega arith),
      length_ten s (at + 42 + 23) (omega arith),
    ))

pub count_sixty : (strict : Bool) (s : List ℕ) (i k : ℕ) (o : Tally) → i + 76 ≤ length s → Run strict s i (i + 76) (sixty_of s i) → o ≡ plus k (tally (letters_by strict (drop i s)))
    → o ≡ plus (k + 60) (tally (letters_by strict (drop (i + 76) s)))
count_sixty strict s i k o h r inv = rw (length_sixty s i h) at (count_run strict s i k o (i + 76) (sixty_of s i) r inv)

-- ---- counting: of bytes among which some are known to be no letters, so many are letters only if all others are

pub one_most : (b : Bool) → one b ≤ 1
one_most true = omega arith
one_most false = omega arith

module _ (p : ℕ → Bool) (s : List ℕ) where
  pub in-none : (at : ℕ) → count_in p s at 0 ≡ 0
  unfolding count_in
  in-none at = refl

  pub in-more : (at n : ℕ) → count_in p s at (n + 1) ≡ count_in p s at n + one (p (get_or s (at + n) 0))
  unfolding count_in
  in-more at n = rw add-one

  pub in-most : (at n : ℕ) → count_in p s at n ≤ n
  unfolding count_in
  in-most at zero = omega arith
  in-most at (suc n) = omega (arith, in-most at n, one_most (p (get_or s (at + n) 0)))

  in_split : (at a b : ℕ) → count_in p s at (a + b) ≡ count_in p s at a + count_in p s (at + a) b
  unfolding count_in
  in_split at a zero = rw (add-zero a) (omega arith)
  in_split at a (suc b) =
      let e : at + a + b ≡ at + (a + b) = omega arith in
      rw (add-suc a b, count_in, in_split at a b, e) (omega arith)

  -- p is passed by letters that are taken, and by no space
  module _ (strict : Bool) (fits : (b : ℕ) → p b ≡ true → taken strict b ≡ true) (none : p 32 ≡ false) where
    -- as many letters as bytes
    full : (at n : ℕ) → at + n ≤ length s → n ≤ count_in p s at n → Run strict s at (at + n) (take n (drop at s))
    unfolding count_in
    full at zero h k = rw (add-zero at) (run_none strict s at)
    full at (suc n) h k = go (full at n) (p (get_or s (at + n) 0)) refl
      where
        go : (at + n ≤ length s → n ≤ count_in p s at n → Run strict s at (at + n) (take n (drop at s))) → (x : Bool) → p (get_or s (at + n) 0) ≡ x → Run strict s at (at + suc n) (take (suc n) (drop at s))
        go before true e =
            let f : at + suc n ≡ at + n + 1 = omega arith in
            let g : take (suc n) (drop at s) ≡ take n (drop at s) ++ (get_or s (at + n) 0 ∷ []) = rw (take-suc (drop at s) n 0 (rw (length-drop at s) (omega arith)), get_or-drop at s n 0) in
            rw (f, g) (run_append (before (omega arith) (omega (arith, rw e at k))) (run_letter strict s (at + n) (omega arith) (fits (get_or s (at + n) 0) e)))
        go before false e = absurd (omega (arith, rw e at k, in-most at n))

    -- a space and ten letters
    module _ (g : ℕ) (e : eqb (get_or s g 0) 32 ≡ true) where
      space_in : count_in p s g 1 ≡ 0
      unfolding count_in
      space_in = rw (add-zero g, eqb-true (get_or s g 0) 32 e, none)

      group_in : count_in p s g 11 ≡ count_in p s (g + 1) 10
      group_in = omega (arith, in_split g 1 10, space_in)

      group : g + 11 ≤ length s → 10 ≤ count_in p s (g + 1) 10 → Run strict s g (g + 11) (ten s (g + 1))
      group h k =
          let f : g + 1 + 10 ≡ g + 11 = omega arith in
          run_append (run_skip strict s g (omega arith) (rw (eqb-true (get_or s g 0) 32 e))) (rw f at (full (g + 1) 10 (omega arith) k))

    -- three of them
    module _ (g : ℕ) (e : spaced s g ≡ true) where
      first : eqb (get_or s g 0) 32 ≡ true
      first = (and_both _ _ e).0

      others : (eqb (get_or s (g + 11) 0) 32 && eqb (get_or s (g + 22) 0) 32) ≡ true
      others = (and_both (eqb (get_or s g 0) 32) _ e).1

      second : eqb (get_or s (g + 11) 0) 32 ≡ true
      second = (and_both (eqb (get_or s (g + 11) 0) 32) (eqb (get_or s (g + 22) 0) 32) others).0

      third : eqb (get_or s (g + 22) 0) 32 ≡ true
      third = (and_both (eqb (get_or s (g + 11) 0) 32) (eqb (get_or s (g + 22) 0) 32) others).1

      thirty_in : count_in p s g 33 ≡ count_in p s (g + 1) 10 + (count_in p s (g + 12) 10 + count_in p s (g + 23) 10)
      thirty_in =
          let a : g + 11 + 11 ≡ g + 22 = omega arith in
          let b : g + 11 + 1 ≡ g + 12 = omega arith in
          let c : g + 22 + 1 ≡ g + 23 = omega arith in
          omega (arith, in_split g 11 22, rw a at (in_split (g + 11) 11 11), group_in g first, rw b at (group_in (g + 11) second), rw c at (group_in (g + 22) third))

      thirty_most : count_in p s g 33 ≤ 30
      thirty_most = omega (arith, thirty_in, in-most (g + 1) 10, in-most (g + 12) 10, in-most (g + 23) 10)

      thirty : g + 33 ≤ length s → 30 ≤ count_in p s g 33 → Run strict s g (g + 33) (thirty_of s g)
      thirty h k =
          let a : g + 11 + 11 ≡ g + 22 = omega arith in
          let b : g + 11 + 1 ≡ g + 12 = omega arith in
          let c : g + 22 + 1 ≡ g + 23 = omega arith in
          let d : g + 22 + 11 ≡ g + 33 = omega arith in
          let x : 10 ≤ count_in p s (g + 1) 10 = omega (arith, thirty_in, in-most (g + 12) 10, in-most (g + 23) 10) in
          let y : 10 ≤ count_in p s (g + 12) 10 = omega (arith, thirty_in, in-most (g + 1) 10, in-most (g + 23) 10) in
          let z : 10 ≤ count_in p s (g + 23) 10 = omega (arith, thirty_in, in-most (g + 1) 10, in-most (g + 12) 10) in
          run_append (group g first (omega arith) x) (run_append (rw (a, b) at (group (g + 11) second (omega arith) (rw b y))) (rw (c, d) at (group (g + 22) third (omega arith) (rw c z))))

    -- six of them
    pub sixty_law : (g n : ℕ) (a b : Bool) → g + 66 ≤ length s → a ≡ spaced s g → not a ≡ false → b ≡ spaced s (g + 33) → not b ≡ false → n ≡ count_in p s (g + 1) 65
        → Runs strict s g (g + 66) (thirty_of s g ++ thirty_of s (g + 33)) (eqb n 60)
    sixty_law g n a b h i j k l m =
        let x = sym i ∙ not-false a j in
        let y = sym k ∙ not-false b l in
        let f : g + 33 + 33 ≡ g + 66 = omega arith in
        record {
          go = λ o.
              let all : count_in p s g 33 + count_in p s (g + 33) 33 ≡ 60 = omega (arith, in_split g 33 33, in_split g 1 65, space_in g (first g x), eqb-true n 60 o) in
              run_append (thirty g x (omega arith) (omega (arith, thirty_most (g + 33) y))) (rw f at (thirty (g + 33) y (omega arith) (omega (arith, thirty_most g x))));
        }

-- without the switch by all letters, with it by the common ones, or by those that have a code
module _ (strict : Bool) (s : List ℕ) (g n : ℕ) (a b : Bool) (h : g + 66 ≤ length s) (i : a ≡ spaced s g) (j : not a ≡ false) (k : b ≡ spaced s (g + 33)) (l : not b ≡ false) where
  pub sixty_letters : not strict ≡ true → n ≡ count_in letter s (g + 1) 65 → Runs strict s g (g + 66) (thirty_of s g ++ thirty_of s (g + 33)) (eqb n 60)
  sixty_letters e m = go strict (not-true strict e)
    where
      go : (x : Bool) → x ≡ false → Runs x s g (g + 66) (thirty_of s g ++ thirty_of s (g + 33)) (eqb n 60)
      go false f = sixty_law letter s false (λ _ t. t) refl g n a b h i j k l m
      go true f = impossible cc

  module _ (e : not strict ≡ false) where
    pub sixty_codes : n ≡ count_in coded s (g + 1) 65 → Runs strict s g (g + 66) (thirty_of s g ++ thirty_of s (g + 33)) (eqb n 60)
    unfolding set_of
    sixty_codes m = rw (not-false strict e) (sixty_law coded s true (λ _ t. t) refl g n a b h i j k l m)

    pub sixty_common : n ≡ count_in common s (g + 1) 65 → n ≡ 60 → Runs strict s g (g + 66) (thirty_of s g ++ thirty_of s (g + 33)) true
    unfolding set_of
    sixty_common m o =
        rw (not-false strict e) (subst (λ (x : Bool). Runs true s g (g + 66) (thirty_of s g ++ thirty_of s (g + 33)) x) (eq-eqb n 60 o) (sixty_law common s true common_coded refl g n a b h i j k l m))

-- a byte more that is counted
pub one_small : (t b : Bool) (r : ℕ) → t ≡ b → r ≡ one t → r ≤ 1
one_small t b r f e = omega (arith, e, one_most t)

pub one_counted : (p : ℕ → Bool) (s : List ℕ) (at j n r : ℕ) (t : Bool) → n ≡ count_in p s at j → t ≡ p (get_or s (at + j) 0) → r ≡ one t → n + r ≡ count_in p s at (j + 1)
one_counted p s at j n r t e f g = rw (in-more p s at j, ← f, ← g, ← e)

pub ruleset spacing = (eq-eqb, ne_eqb)

-- the parts of a line of the usual layout
module _ (s : List ℕ) (at : ℕ) where
  pub numbered_law : (d r : Bool) → at + 9 ≤ length s → d ≡ digit (get_or s (at + 8) 0) → not d ≡ false → Skips s at (at + 8) r → Skips s at (at + 9) r
  numbered_law d r h e f w =
      let g : at + 9 ≡ at + 8 + 1 = omega arith in
      record { go = λ o strict. rw g (run_append (w.go o strict) (run_skip strict s (at + 8) (omega arith) (rw (← e, not-false d f)))) }

  pub ends_law : (b : ℕ) → skipped b ≡ true → at + 1 ≤ length s → Skips s at (at + 1) (eqb (get_or s at 0) b)
  ends_law b k h = record { go = λ o strict. run_skip strict s at (omega arith) (rw (eqb-true (get_or s at 0) b o) k) }

  pub usual_law : (strict a b r : Bool) → Skips s (at + 75) (at + 75 + 1) a → not a ≡ false → Runs strict s (at + 9) (at + 9 + 66) (thirty_of s (at + 9) ++ thirty_of s (at + 9 + 33)) b
      → not b ≡ false → Skips s at (at + 9) r → Runs strict s at (at + 76) (sixty_of s at) r
  usual_law strict a b r x h y k z =
      let e : at + 9 + 66 ≡ at + 75 = omega arith in
      let f : at + 75 + 1 ≡ at + 76 = omega arith in
      let g : at + 9 + 33 ≡ at + 42 = omega arith in
      record {
        go = λ o.
            rw (← append-nil (sixty_of s at)) (run_append (z.go o strict) (run_append (rw (e, g) at (y.go (not-false b k))) (rw f at (x.go (not-false a h) strict))));
      }

pub plus_none : (x : Tally) → x ≡ plus 0 x
plus_none (slash n r) = ap (λ (k : ℕ). slash k r) (omega arith)
plus_none (end n) = ap end (omega arith)
plus_none (bad r) = refl

pub counts_from : (s : List ℕ) (at from : ℕ) (o q : Tally) (r : Counted) → at ≤ from → o ≡ q → Counts s from q r → Counts s at o r
counts_from s at from o q r h e c = record { is = c.is ∙ sym e; place = go r c.place }
  where
    go : (r : Counted) → PastCounted s from r → PastCounted s at r
    go (counted.AtSlash n next) w = (omega (arith, w.0), w.1)
    go (counted.AtEnd n) w = omega (arith, w)
    go (counted.Bad next) w = (omega (arith, w.0), w.1)

pub ruleset counting = (count_letter, count_skip, count_slash, count_bad, count_end)

-- ten bytes, one after the other
module _ (s t : List ℕ) (at j : ℕ) where
  pub ten_more : at + 10 ≤ length s → length t ≡ 10 → j < 10 → take j t ≡ take j (drop at s) → take (j + 1) (set t j (get_or s (at + j) 0)) ≡ take (j + 1) (drop at s)
  ten_more h k l e =
      let f : j < length (drop at s) = rw (length-drop at s) (omega arith) in
      let g : j < length t = omega arith in
      rw (add-one, take-suc-set t j (get_or s (at + j) 0), take-suc (drop at s) j 0, get_or-drop at s j 0, e)

  pub ten_done : length t ≡ 10 → j ≡ 10 → take j t ≡ take j (drop at s) → t ≡ ten s at
  ten_done k l e = sym (take_all 10 t (omega arith)) ∙ rw l at e

-- where nothing more is put
module _ (s : List ℕ) (i : ℕ) where
  stop_slash : i < length s → letter (get_or s i 0) ≡ false → eqb (get_or s i 0) 47 ≡ true → sifted (drop i s) ≡ []
  unfolding sifted
  stop_slash h e f = rw (drop_more s i h, sifted, e, f)

  stop_bad : i < length s → letter (get_or s i 0) ≡ false → eqb (get_or s i 0) 47 ≡ false → skipped (get_or s i 0) ≡ false → sifted (drop i s) ≡ []
  unfolding sifted
  stop_bad h e f g = rw (drop_more s i h, sifted, e, f, g)

  stop_end : length s ≤ i → sifted (drop i s) ≡ []
  unfolding sifted
  stop_end h = rw (drop_of_length-le s h)

-- the loops that put
pub left_run : {old new out : List ℕ} {place p q : ℕ} {whole : List ℕ} (s : List ℕ) (i to : ℕ) (w : List ℕ)
    → Left old place whole new p (sifted (drop i s)) → Run false s i to w → Writes new p w out q → Left old place whole out q (sifted (drop to s))
left_run s i to w l r h = left_step (left_as r.text l) h

module _ {old new : List ℕ} {place p : ℕ} {whole : List ℕ} (s : List ℕ) (i : ℕ) (l : Left old place whole new p (sifted (drop i s))) where
  pub left_letter : {out : List ℕ} {q : ℕ} (r : Bool) → i < length s → r ≡ letter (get_or s i 0) → r ≡ true → Writes new p (get_or s i 0 ∷ []) out q → Left old place whole out q (sifted (drop (i + 1) s))
  left_letter r h e f w = left_run s i (i + 1) (get_or s i 0 ∷ []) l (run_letter false s i h (sym e ∙ f)) w

  pub left_skip : (q : Bool) → i < length s → q ≡ skipped (get_or s i 0) → not q ≡ false → Left old place whole new p (sifted (drop (i + 1) s))
  left_skip q h e f = left_as (run_skip false s i h (sym e ∙ not-false q f)).text l

  pub left_feed : i < length s → get_or s i 0 ≡ 10 → Left old place whole new p (sifted (drop (i + 1) s))
  left_feed h e = left_as (run_skip false s i h (rw e)).text l

  pub left_stop : (r q : Bool) → i < length s → r ≡ letter (get_or s i 0) → r ≡ false → q ≡ skipped (get_or s i 0) → not q ≡ true → Writes old place whole new p
  left_stop r q h e f g k = left_end (left_as (stops (eqb (get_or s i 0) 47) refl) l)
    where
      stops : (x : Bool) → eqb (get_or s i 0) 47 ≡ x → sifted (drop i s) ≡ []
      stops true m = stop_slash s i h (sym e ∙ f) m
      stops false m = stop_bad s i h (sym e ∙ f) m (sym g ∙ not-true q k)

  pub left_over : length s ≤ i → Writes old place whole new p
  left_over h = left_end (left_as (stop_end s i h) l)
