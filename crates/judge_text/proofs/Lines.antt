-- The columns of lines, byte by byte.
use Rattle.std.proofs.Common.{ℕ, suc, ◌+◌, ◌-◌, ◌≤◌, ◌<◌, ◌≡◌, refl, Bool, true, false, ◌&&◌, eqb, ltb, List, [], ◌∷◌, length, get_or, drop, arith, drop-cons, length-drop, sym, add-one}
use Rattle.std.proofs.lemmas.Bool.{lt-ltb, le-ltb, eq-eqb, ne_eqb}
use lib.ListN.{drop_of_length-le}
use Rattle.spec_format.specs.Bytes.{some}
use Rattle.spec_format.specs.Keeping.{lines_kept}

more_is : (s : List ℕ) (i : ℕ) → some (drop (suc i) s) ≡ ltb (i + 1) (length s)
more_is s i = go (drop (suc i) s) (length-drop (suc i) s)
  where
    go : (t : List ℕ) → length t ≡ length s - suc i → some t ≡ ltb (i + 1) (length s)
    go [] e = sym (le-ltb (i + 1) (length s) (omega arith))
    go (b ∷ t) e = sym (lt-ltb (i + 1) (length s) (omega arith))

no_quote : (q : Bool) (b : ℕ) → (q ≡ true → b ≡ 34 → ⊥) → (q && eqb b 34) ≡ false
no_quote true b n = ne_eqb b 34 (n refl)
no_quote false b n = refl

-- what is kept from a byte on, by what the byte is
module _ (q : Bool) (W indent used : ℕ) (s : List ℕ) (i : ℕ) where
  pub quote_at : i < length s → q ≡ true → get_or s i 0 ≡ 34 → lines_kept q W indent used (drop i s) ≡ lines_kept q W indent (used + 2) (drop (i + 1) s)
  unfolding lines_kept
  quote_at h e b = let n : used + 2 ≡ suc (suc used) = omega arith in rw (n, add-one i, drop-cons s i 0 h, lines_kept, e, eq-eqb _ _ b)

  pub line_at : i < length s → get_or s i 0 ≡ 10 → used < W → i + 1 < length s → lines_kept q W indent used (drop i s) ≡ lines_kept q W indent indent (drop (i + 1) s)
  unfolding lines_kept
  line_at h b l m =
      rw (add-one i, drop-cons s i 0 h, lines_kept, no_quote q (get_or s i 0) (λ e f. omega arith), eq-eqb _ _ b, lt-ltb used W l, more_is s i, lt-ltb _ _ m)

  pub long_at : i < length s → get_or s i 0 ≡ 10 → W ≤ used → lines_kept q W indent used (drop i s) ≡ false
  unfolding lines_kept
  long_at h b l = rw (drop-cons s i 0 h, lines_kept, no_quote q (get_or s i 0) (λ e f. omega arith), eq-eqb _ _ b, le-ltb used W l)

  pub last_at : i < length s → get_or s i 0 ≡ 10 → used < W → length s ≤ i + 1 → lines_kept q W indent used (drop i s) ≡ false
  unfolding lines_kept
  last_at h b l m =
      rw (drop-cons s i 0 h, lines_kept, no_quote q (get_or s i 0) (λ e f. omega arith), eq-eqb _ _ b, lt-ltb used W l, more_is s i, le-ltb _ _ m)

  pub return_at : i < length s → get_or s i 0 ≡ 13 → lines_kept q W indent used (drop i s) ≡ false
  unfolding lines_kept
  return_at h b =
      rw (drop-cons s i 0 h, lines_kept, no_quote q (get_or s i 0) (λ e f. omega arith), ne_eqb (get_or s i 0) 10 (λ e. omega arith), eq-eqb _ _ b)

  pub other_at : i < length s → (q ≡ true → get_or s i 0 ≡ 34 → ⊥) → (get_or s i 0 ≡ 10 → ⊥) → (get_or s i 0 ≡ 13 → ⊥)
      → lines_kept q W indent used (drop i s) ≡ lines_kept q W indent (used + 1) (drop (i + 1) s)
  unfolding lines_kept
  other_at h n m o =
      rw (add-one i, add-one used, drop-cons s i 0 h, lines_kept, no_quote q (get_or s i 0) n, ne_eqb (get_or s i 0) 10 m, ne_eqb (get_or s i 0) 13 o)

  pub end_at : length s ≤ i → lines_kept q W indent used (drop i s) ≡ ltb used W
  unfolding lines_kept
  end_at h = rw (drop_of_length-le s h)

pub ruleset kept = (quote_at, line_at, long_at, last_at, return_at, other_at, end_at)
