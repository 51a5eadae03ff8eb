-- Lines in lists: what the counts of LFs and of bytes up to the last LF say, and what a place in a slice says of an end of it.
use Rattle.std.specs.Prelude.{ℕ, zero, suc, ◌+◌, ◌-◌, ◌≤◌, ◌<◌, Bool, true, false, List, [], ◌∷◌, ◌⊎◌, ◌≡◌, refl, eqb, length, get_or, take, drop}
use Rattle.std.proofs.Common.{inl, inr, sym, ap, ◌∙◌, arith, eqb-true, eq-eqb, take-take, drop-drop, get_or-take, get_or-drop, length-take-le}
use Rattle.std.proofs.Math.Nat.{sub-zero, zero-sub, suc-sub-suc}
use Rattle.std.proofs.Math.Seq.{take-nil}
use Rattle.spec_format.specs.Impossible.{impossible}
use Rattle.spec_lines.specs.Lines.{feeds, line_start}

-- ---- a text w: its LFs, and where its last line starts

-- the last line starts in the text, or at its end
pub start_within : (w : List ℕ) → line_start w ≤ length w
unfolding line_start
start_within [] = omega arith
start_within (b ∷ w) = go (start_within w) (line_start w) refl (eqb b 10) refl
  where
    go : line_start w ≤ length w → (n : ℕ) → line_start w ≡ n → (x : Bool) → eqb b 10 ≡ x → line_start (b ∷ w) ≤ length (b ∷ w)
    go ih (suc n) e x f = rw (line_start, e) (omega arith)
    go ih zero e true f = rw (line_start, e, f) (omega arith)
    go ih zero e false f = rw (line_start, e, f) (omega arith)

-- a text without LF has no line start
no_feeds : (w : List ℕ) → line_start w ≡ 0 → feeds w ≡ 0
unfolding line_start feeds
no_feeds [] h = refl
no_feeds (b ∷ w) h = go (no_feeds w) (line_start w) refl (eqb b 10) refl
  where
    go : (line_start w ≡ 0 → feeds w ≡ 0) → (n : ℕ) → line_start w ≡ n → (x : Bool) → eqb b 10 ≡ x → feeds (b ∷ w) ≡ 0
    go ih (suc n) e x f = impossible cc
    go ih zero e true f = impossible cc
    go ih zero e false f = rw (feeds, f) (ih e)

-- all LFs stand before the last line's start
pub feeds_before : (w : List ℕ) → feeds (take (line_start w) w) ≡ feeds w
unfolding line_start feeds
feeds_before [] = refl
feeds_before (b ∷ w) = go (feeds_before w) (line_start w) refl (eqb b 10) refl
  where
    go : feeds (take (line_start w) w) ≡ feeds w → (n : ℕ) → line_start w ≡ n → (x : Bool) → eqb b 10 ≡ x → feeds (take (line_start (b ∷ w)) (b ∷ w)) ≡ feeds (b ∷ w)
    go ih (suc n) e true f = rw (line_start, e, feeds, f) (ap suc (rw e at ih))
    go ih (suc n) e false f = rw (line_start, e, feeds, f) (rw e at ih)
    go ih zero e true f = rw (line_start, e, feeds, f, no_feeds w e, f)
    go ih zero e false f = rw (line_start, e, feeds, f, no_feeds w e)

-- and none after it
pub feeds_after : (w : List ℕ) → feeds (drop (line_start w) w) ≡ 0
unfolding line_start feeds
feeds_after [] = refl
feeds_after (b ∷ w) = go (feeds_after w) (line_start w) refl (eqb b 10) refl
  where
    go : feeds (drop (line_start w) w) ≡ 0 → (n : ℕ) → line_start w ≡ n → (x : Bool) → eqb b 10 ≡ x → feeds (drop (line_start (b ∷ w)) (b ∷ w)) ≡ 0
    go ih (suc n) e x f = rw (line_start, e) (rw e at ih)
    go ih zero e true f = rw (line_start, e, f) (no_feeds w e)
    go ih zero e false f = rw (line_start, e, f, feeds, f) (no_feeds w e)

-- the byte before a line's start is LF
pub start_after_feed : (w : List ℕ) (n : ℕ) → line_start w ≡ suc n → get_or w n 0 ≡ 10
unfolding line_start
start_after_feed [] n h = impossible cc
start_after_feed (b ∷ w) n h = go (start_after_feed w) (line_start w) refl (eqb b 10) refl
  where
    go : ((m : ℕ) → line_start w ≡ suc m → get_or w m 0 ≡ 10) → (m : ℕ) → line_start w ≡ m → (x : Bool) → eqb b 10 ≡ x → get_or (b ∷ w) n 0 ≡ 10
    go ih (suc m) e x f = let z : n ≡ suc m = cc in rw z (ih m e)
    go ih zero e true f = let z : n ≡ 0 = cc in rw z (eqb-true b 10 f)
    go ih zero e false f = impossible cc

-- where an LF stands the count is not 0
pub feed_there : (w : List ℕ) (n : ℕ) → n < length w → get_or w n 0 ≡ 10 → feeds w ≡ 0 → ⊥
unfolding feeds
feed_there [] n l e z = omega arith
feed_there (b ∷ w) zero l e z = let f : eqb b 10 ≡ true = eq-eqb b 10 e in impossible cc
feed_there (b ∷ w) (suc n) l e z = go (feed_there w n (omega arith) e) (eqb b 10) refl
  where
    go : (feeds w ≡ 0 → ⊥) → (x : Bool) → eqb b 10 ≡ x → ⊥
    go ih true f = impossible cc
    go ih false f = ih (cc)

-- ---- parts of a slice

pub drop_take : (k n : ℕ) (l : List ℕ) → drop k (take n l) ≡ take (n - k) (drop k l)
drop_take zero n l = rw (sub-zero n)
drop_take (suc k) zero l = rw (zero-sub (suc k))
drop_take (suc k) (suc n) [] = rw (take-nil {A = ℕ} (suc n - suc k))
drop_take (suc k) (suc n) (x ∷ l) = rw (suc-sub-suc n k) (drop_take k n l)

-- from the place `at` of s stand q bytes up to the trouble; n of them stand before the last line that starts among them
module _ (s : List ℕ) (at q : ℕ) (fits : q ≤ length (drop at s)) where
  pub start_low : line_start (take q (drop at s)) ≤ q
  start_low = rw (length-take-le q (drop at s) fits) at (start_within (take q (drop at s)))

  pub start_counted : feeds (take q (drop at s)) ≡ feeds (take (line_start (take q (drop at s))) (drop at s))
  start_counted = sym (feeds_before (take q (drop at s))) ∙ ap feeds (take-take (line_start (take q (drop at s))) q (drop at s) start_low)

  pub start_unbroken : feeds (take (q - line_start (take q (drop at s))) (drop (at + line_start (take q (drop at s))) s)) ≡ 0
  start_unbroken =
      sym (ap feeds (drop_take (line_start (take q (drop at s))) q (drop at s) ∙ ap (take (q - line_start (take q (drop at s)))) (drop-drop (line_start (take q (drop at s))) at s)))
      ∙ feeds_after (take q (drop at s))

  pub start_first :
      (line_start (take q (drop at s)) ≡ 0) ⊎
      ((0 < line_start (take q (drop at s))) × (get_or s (at + line_start (take q (drop at s)) - 1) 0 ≡ 10))
  start_first = go (line_start (take q (drop at s))) refl
    where
      go : (m : ℕ) → line_start (take q (drop at s)) ≡ m → (m ≡ 0) ⊎ ((0 < m) × (get_or s (at + m - 1) 0 ≡ 10))
      go zero e = inl refl
      go (suc m) e =
          let l = start_low in
          let k : at + suc m - 1 ≡ at + m = omega arith in
          let g : m < q = omega arith in
          inr (omega arith, rw k (sym (get_or-take q (drop at s) m 0 g ∙ get_or-drop at s m 0) ∙ start_after_feed (take q (drop at s)) m e))
