-- The start of a text where each byte takes one column and none is a LF: where its line ends is known without going over it.
use Rattle.std.specs.Prelude.{◌≡◌, refl, ℕ, suc, zero, ◌+◌, ◌-◌, ◌≤◌, ◌<◌, Bool, true, false, Option, Some, None, MatchOption, List, [], ◌∷◌, eqb, length, get_or, take, drop, min}
use Rattle.std.proofs.Common.{length-take-le, length-take, get_or-take, sym, ap, ◌∙◌, arith, add-zero, add-one, lt-ltb, le-ltb, eq-eqb, ne_eqb, eqb-true}
use Rattle.std.specs.Option.{IfSome}
use Rattle.std.proofs.lemmas.Bool.{eqb-false, false≢true}
use Rattle.write_wrap_text.specs.declared.Break.{Break}
use Rattle.write_wrap_text.specs.Line.{Breaks, Scanning, last_before, columns, stops, full, spot, placed, last_space, escape, cases, scan_turn, scan_full, scan_feed, scan_end, breaks}

-- the place of the last space among the first n bytes
abbrev pub last_to : ℕ → List ℕ → Option ℕ
last_to zero t = None
last_to (suc n) t = last_space (get_or t n 0) n (last_to n t)

last_none : (n : ℕ) (t : List ℕ) → ((k : ℕ) → k < n → get_or t k 0 ≡ 32 → ⊥) → None ≡ last_to n t
last_none zero t h = refl
last_none (suc n) t h = rw (ne_eqb (get_or t n 0) 32 (h n (omega arith))) (last_none n t (λ k l. h k (omega arith)))

last_some : (n i : ℕ) (t : List ℕ) → i < n → get_or t i 0 ≡ 32 → ((k : ℕ) → i < k → k < n → get_or t k 0 ≡ 32 → ⊥) → Some i ≡ last_to n t
last_some zero i t l e h = absurd (omega arith)
last_some (suc n) i t l e h =
    cases (eqb i n) (λ z. let y : i ≡ n = eqb-true i n z in rw (eq-eqb (get_or t n 0) 32 (rw y at e), y))
    (λ z. let y : i < n = omega (arith, eqb-false i n z) in rw (ne_eqb (get_or t n 0) 32 (h n y (omega arith))) (last_some n i t y e (λ k a b. h k a (omega arith))))

-- what a search for it tells
pub last_is : (n : ℕ) (t : List ℕ) → n ≤ length t → (o : Option ℕ)
    → MatchOption o ((k : ℕ) → k < length (take n t) → get_or (take n t) k 0 ≡ 32 → ⊥)
    (λ i. (i < length (take n t)) × (get_or (take n t) i 0 ≡ 32) × ((k : ℕ) → i < k → k < length (take n t) → get_or (take n t) k 0 ≡ 32 → ⊥))
    → o ≡ last_to n t
last_is n t h None f = last_none n t (λ k l x. f k (omega (arith, length-take-le n t h)) (rw (get_or-take n t k 0 l) x))
last_is n t h (Some i) f =
    let l : i < n = omega (arith, f.0, length-take-le n t h) in
    last_some n i t l (rw (get_or-take n t i 0 l) at f.1) (λ k a c x. f.2 k a (omega (arith, length-take-le n t h)) (rw (get_or-take n t k 0 c) x))

pub last_more : (n : ℕ) (t : List ℕ) → last_space (get_or t n 0) n (last_to n t) ≡ last_to (n + 1) t
last_more n t = rw (add-one n)

-- neither LF nor the mark
abbrev pub Plain : ℕ → ℕ → Type 0
Plain m b = (b ≡ 10 → ⊥) × (b ≡ m → ⊥)

-- the mark beside LF: a quote, if it is written twice
abbrev pub mark : Bool → ℕ
mark true = 34
mark false = 10

-- none of the first n bytes is written twice, and none is a LF
pub record Straight (q : Bool) (n : ℕ) (t : List ℕ) : Type 0 where
  pub single : q ≡ true → (k : ℕ) → k < n → get_or t k 0 ≡ 34 → ⊥
  pub feed : (k : ℕ) → k < n → get_or t k 0 ≡ 10 → ⊥

one_column : (q : Bool) (b : ℕ) → (q ≡ true → b ≡ 34 → ⊥) → columns q b ≡ 1
one_column false b h = refl
one_column true b h = rw (ne_eqb b 34 (h refl))

straight_run : (n : ℕ) (q : Bool) (W used : ℕ) (t : List ℕ) → n ≤ length t → n ≤ W - used → Straight q n t
    → placed 0 None (spot q W used t) ≡ placed n (last_to n t) (spot q W (used + n) (drop n t))
straight_run zero q W used t h w p = rw (add-zero used)
straight_run (suc n) q W used t h w p =
    let b = get_or t n 0 in
    let c : columns q b ≡ 1 = one_column q b (λ y. p.single y n (omega arith)) in
    let e : used + n + 1 ≡ used + suc n = omega arith in
    let s : stops b W (used + n + columns q b) ≡ false = rw (c, le-ltb W (used + n + 1) (omega arith)) in
    straight_run n q W used t (omega arith) (omega arith) (record { single = λ y k l. p.single y k (omega arith); feed = λ k l. p.feed k (omega arith) })
    ∙ scan_turn q W (used + n) n (last_to n t) t (omega arith) s (p.feed n (omega arith)) ∙ rw (c, e, add-one n)

last_inside : (n : ℕ) (t : List ℕ) → IfSome (last_to n t) (λ k. k < n)
last_inside zero t = tt
last_inside (suc n) t = rw (← (add-one n)) (last_before (get_or t n 0) n (last_to n t) (last_inside n t))

-- a scan may begin after them
pub scanning_start : {q : Bool} {n W used : ℕ} {t : List ℕ} → n ≤ length t → n ≤ W - used → Straight q n t → Scanning q W used t n (last_to n t) (used + n)
scanning_start {q} {n} {W} {used} {t} h w p = record { before = last_inside n t; few = omega arith; same = sym (straight_run n q W used t h w p) }

feed_column : (q : Bool) → columns q 10 ≡ 1
feed_column false = refl
feed_column true = refl

some_columns : (q : Bool) (b : ℕ) → 1 ≤ columns q b
some_columns false b = omega arith
some_columns true b = cases (eqb b 34) (λ e. rw e (omega arith)) (λ e. rw e (omega arith))

module _ (q : Bool) (W used : ℕ) (t : List ℕ) (n : ℕ) (e : n ≡ min (length t) (W - used)) where
  inside : (k : ℕ) → k < n → k < length (take n t)
  inside k l = rw (length-take-le n t (omega arith)) l

  -- the line ends at a LF, where no byte before it is written twice
  pub start_feed : (k : ℕ) → (k < length (take n t)) × (get_or (take n t) k 0 ≡ 10) × ((j : ℕ) → j < k → get_or (take n t) j 0 ≡ 10 → ⊥)
      → (q ≡ true → (j : ℕ) → j < length (take k (take n t)) → get_or (take k (take n t)) j 0 ≡ 34 → ⊥) → Breaks q W used t (record { end = k; next = k + 1 })
  start_feed k h single =
      let l : k < n = rw (length-take-le n t (omega arith)) at h.0 in
      let b : get_or t k 0 ≡ 10 = rw (get_or-take n t k 0 l) at h.1 in
      let s : stops (get_or t k 0) W (used + k + columns q (get_or t k 0)) ≡ false = rw (b, feed_column q, le-ltb W (used + k + 1) (omega arith)) in
      let c : length (take k (take n t)) ≡ k = length-take-le k (take n t) (omega arith) in
      let before : Straight q k t =
      record {
        single = λ y j m x. single y j (rw c m) (rw (get_or-take k (take n t) j 0 m, get_or-take n t j 0 (omega arith)) x);
        feed = λ j m x. h.2 j m (rw (get_or-take n t j 0 (omega arith)) x);
      } in
      breaks q W used t _ (straight_run k q W used t (omega arith) (omega arith) before ∙ scan_feed q W (used + k) k (last_to k t) t (omega arith) s b)

  -- none of the bytes that may fit is written twice, and none is a LF
  module _ (none : (k : ℕ) → k < length (take n t) → get_or (take n t) k 0 ≡ 10 → ⊥)
      (single : q ≡ true → (k : ℕ) → k < length (take n t) → get_or (take n t) k 0 ≡ 34 → ⊥) where
    straight : Straight q n t
    straight =
        record {
          single = λ y k l x. single y k (inside k l) (rw (get_or-take n t k 0 l) x);
          feed = λ k l x. none k (inside k l) (rw (get_or-take n t k 0 l) x);
        }

    run : placed 0 None (spot q W used t) ≡ placed n (last_to n t) (spot q W (used + n) (drop n t))
    run = straight_run n q W used t (omega arith) (omega arith) straight

    -- the text fits
    pub start_whole : n ≡ length t → Breaks q W used t (record { end = n; next = n })
    start_whole h = breaks q W used t _ (run ∙ scan_end q W (used + n) n (last_to n t) t (omega arith))

    -- the text goes past its line
    pub start_full : (n ≡ length t → ⊥) → get_or t n 0 < 128 → (space : Option ℕ)
        → MatchOption space ((k : ℕ) → k < length (take n t) → get_or (take n t) k 0 ≡ 32 → ⊥)
        (λ i. (i < length (take n t)) × (get_or (take n t) i 0 ≡ 32) × ((k : ℕ) → i < k → k < length (take n t) → get_or (take n t) k 0 ≡ 32 → ⊥))
        → {r : Break} → r ≡ full (get_or t n 0) n space → Breaks q W used t r
    start_full h a space f {r} g =
        let b = get_or t n 0 in
        let y : b ≤ 127 = omega arith in
        let z : 1 ≤ columns q b = some_columns q b in
        let s : stops b W (used + n + columns q b) ≡ true = rw (lt-ltb W (used + n + columns q b) (omega arith), le-ltb 127 b y) in
        breaks q W used t r
        (run ∙ scan_full q W (used + n) n (last_to n t) t (omega arith) s ∙ ap (λ (o : Option ℕ). full b n o) (sym (last_is n t (omega arith) space f)) ∙ sym g)

-- ---- what is known of a text without quotes
pub escape_single : (q : Bool) (t : List ℕ) → (q ≡ true → (k : ℕ) → k < length t → get_or t k 0 ≡ 34 → ⊥) → t ≡ escape q t
escape_single q [] h = refl
escape_single false (b ∷ t) h = ap (λ (l : List ℕ). b ∷ l) (escape_single false t (λ y. absurd (false≢true y)))
escape_single true (b ∷ t) h = rw (ne_eqb b 34 (h refl 0 (omega arith))) (ap (λ (l : List ℕ). b ∷ l) (escape_single true t (λ y k l. h y (suc k) (omega arith))))

-- where all bytes before e are plain, none of them is written twice
pub plain_single : (q : Bool) {m e : ℕ} (l : List ℕ) → m ≡ mark q → ((k : ℕ) → k < e → Plain m (get_or l k 0)) → q ≡ true → (k : ℕ) → k < e → get_or l k 0 ≡ 34 → ⊥
plain_single q l a h y k j x = (h k j).1 (x ∙ sym (a ∙ ap mark y))

-- a line of plain bytes among the first n is written as it is
pub plain_same : (q : Bool) {m e n : ℕ} (t : List ℕ) → m ≡ mark q → n ≤ length t → e ≤ n → ((k : ℕ) → k < e → Plain m (get_or (take n t) k 0))
    → escape false (take e t) ≡ escape q (take e t)
plain_same q {e} {n} t a g h f =
    sym (escape_single false (take e t) (λ y. absurd (false≢true y)))
    ∙ escape_single q (take e t)
    (λ y k l x.
    let z : k < e = omega (arith, length-take e t) in
    plain_single q (take n t) a f y k z (get_or-take n t k 0 (omega arith) ∙ sym (get_or-take e t k 0 z) ∙ x))

-- a full line ends within what may fit
pub full_end : (b n : ℕ) (space : Option ℕ) → IfSome space (λ k. k < n) → (full b n space).end ≤ n
full_end b n None h = cases (eqb b 32) (λ e. rw e (omega arith)) (λ e. cases (eqb b 10) (λ d. rw (e, d) (omega arith)) (λ d. rw (e, d) (omega arith)))
full_end b n (Some k) h = cases (eqb b 32) (λ e. rw e (omega arith)) (λ e. cases (eqb b 10) (λ d. rw (e, d) (omega arith)) (λ d. rw (e, d) (omega arith)))
