-- A line of free text as a scanner finds it: `spot` counts bytes where `fill` of the format builds lists; `join` says that they agree.
use Rattle.std.specs.Prelude.{◌≡◌, refl, ℕ, suc, ◌+◌, ◌*◌, ◌≤◌, ◌<◌, Bool, true, false, Option, Some, None, not, ◌&&◌, ◌||◌, List, [], ◌∷◌, ◌++◌, ltb, eqb, length, get_or, take, drop}
use Rattle.std.proofs.Common.{◌∙◌, sym, arith, add-zero, zero-add, add-one, drop_of_length-le, length-drop, drop-cons, lt-ltb, le-ltb, eq-eqb, ne_eqb, ltb-true, ltb-false, eqb-true}
use Rattle.std.specs.Option.{IfSome}
use Rattle.spec_format.specs.Bytes.{pick, spaces}
use Rattle.spec_format.specs.Wrap.{Line, line_fits, line_over, line_text, line_rest, put, put_space, inner, fill}
use Rattle.write_wrap_text.specs.declared.Break.{Break}

-- a byte as it is written: a quote twice where quotes are doubled
abbrev pub shown : Bool → ℕ → List ℕ
shown false b = b ∷ []
shown true b = pick (eqb b 34) (34 ∷ 34 ∷ []) (b ∷ [])

abbrev pub escape : Bool → List ℕ → List ℕ
escape q [] = []
escape q (b ∷ bs) = shown q b ++ escape q bs

abbrev pub columns : Bool → ℕ → ℕ
columns false b = 1
columns true b = pick (eqb b 34) 2 1

-- a line of W columns stops before b, which would bring it to w columns
abbrev pub stops : ℕ → ℕ → ℕ → Bool
stops b W w = pick (ltb W w) (not (inner b)) false

-- the place of the last space, after the byte b at i
abbrev pub last_space : ℕ → ℕ → Option ℕ → Option ℕ
last_space b i space = pick (eqb b 32) (Some i) space

-- what ends a text, where a column is free and where none is
abbrev pub closed : Bool → Bool → ℕ → List ℕ
closed false free indent = 10 ∷ []
closed true true indent = 34 ∷ 10 ∷ []
closed true false indent = 10 ∷ [] ++ spaces indent ++ 34 ∷ 10 ∷ []

-- a line over the text in bytes. Ends: how many the line has, and how many come before the next line. Full: the line is full after so many
pub data Spot : Type 0 where
  ends_at : ℕ → ℕ → Spot
  is_full : ℕ → Spot

abbrev pub more : Spot → Spot
more (ends_at n m) = ends_at (suc n) (suc m)
more (is_full n) = is_full (suc n)

-- a space: a line that is full later is broken here
abbrev pub more_space : Spot → Spot
more_space (ends_at n m) = ends_at (suc n) (suc m)
more_space (is_full n) = ends_at 0 1

-- a full line before b, which is left out if it is a space or LF
abbrev pub full_at : ℕ → Spot
full_at b = pick (eqb b 32) (ends_at 0 1) (pick (eqb b 10) (ends_at 0 1) (is_full 0))

unfoldable pub spot : Bool → ℕ → ℕ → List ℕ → Spot
spot q W used [] = ends_at 0 0
spot q W used (b ∷ t) =
    elim (stops b W (used + columns q b)) [
      | true ↦ full_at b
      | false ↦ elim (eqb b 10) [
        | true ↦ ends_at 0 1
        | false ↦ elim (eqb b 32) [ true ↦ more_space (spot q W (used + columns q b) t) | false ↦ more (spot q W (used + columns q b) t) ]
      ]
    ]

-- the break at place i of a full line with its last space
abbrev pub over : ℕ → Option ℕ → Break
over i None = record { end = i; next = i }
over i (Some k) = record { end = k; next = k + 1 }

abbrev pub full : ℕ → ℕ → Option ℕ → Break
full b i space = pick (eqb b 32) (record { end = i; next = i + 1 }) (pick (eqb b 10) (record { end = i; next = i + 1 }) (over i space))

-- a spot as the scanner at place i, with its last space, sees it
abbrev pub placed : ℕ → Option ℕ → Spot → Break
placed i space (ends_at n m) = record { end = i + n; next = i + m }
placed i space (is_full n) = over (i + n) space

pub cases {ℓ} : {X : Type ℓ} (b : Bool) → (b ≡ true → X) → (b ≡ false → X) → X
cases true f g = f refl
cases false f g = g refl

before_more : (i : ℕ) (space : Option ℕ) → IfSome space (λ k. k < i) → IfSome space (λ k. k < i + 1)
before_more i None h = tt
before_more i (Some k) h = omega arith

pub last_before : (b i : ℕ) (space : Option ℕ) → IfSome space (λ k. k < i) → IfSome (last_space b i space) (λ k. k < i + 1)
last_before b i space h = cases (eqb b 32) (λ e. rw e (omega arith)) (λ e. rw e (before_more i space h))

-- ---- the scanner's steps
pub drop_more : (t : List ℕ) (i : ℕ) → i < length t → drop i t ≡ get_or t i 0 ∷ drop (i + 1) t
drop_more t i h = rw (add-one i, drop-cons t i 0)

next_place : (i n : ℕ) → i + suc n ≡ i + 1 + n
next_place i n = omega arith

placed_more : (i : ℕ) (space : Option ℕ) (s : Spot) → placed i space (more s) ≡ placed (i + 1) space s
placed_more i space (ends_at n m) = rw (next_place i n, next_place i m)
placed_more i space (is_full n) = rw (next_place i n)

placed_space : (i : ℕ) (space : Option ℕ) (s : Spot) → placed i space (more_space s) ≡ placed (i + 1) (Some i) s
placed_space i space (ends_at n m) = rw (next_place i n, next_place i m)
placed_space i space (is_full n) = rw (add-zero i)

pub scan_turn : (q : Bool) (W used i : ℕ) (space : Option ℕ) (t : List ℕ) → i < length t
    → stops (get_or t i 0) W (used + columns q (get_or t i 0)) ≡ false → (get_or t i 0 ≡ 10 → ⊥)
    → placed i space (spot q W used (drop i t)) ≡ placed (i + 1) (last_space (get_or t i 0) i space) (spot q W (used + columns q (get_or t i 0)) (drop (i + 1) t))
unfolding spot
scan_turn q W used i space t h s n =
    rw (drop_more t i h)
    (cases (eqb (get_or t i 0) 32) (λ e. rw (s, ne_eqb (get_or t i 0) 10 n, e, spot) (placed_space i space (spot q W (used + columns q (get_or t i 0)) (drop (i + 1) t))))
    (λ e. rw (s, ne_eqb (get_or t i 0) 10 n, e, spot) (placed_more i space (spot q W (used + columns q (get_or t i 0)) (drop (i + 1) t)))))

placed_full : (b i : ℕ) (space : Option ℕ) → placed i space (full_at b) ≡ full b i space
placed_full b i space =
    cases (eqb b 32) (λ e. rw (e, add-zero i))
    (λ e. cases (eqb b 10) (λ d. rw (e, d, add-zero i)) (λ d. rw (e, d, add-zero i)))

pub scan_full : (q : Bool) (W used i : ℕ) (space : Option ℕ) (t : List ℕ) → i < length t
    → stops (get_or t i 0) W (used + columns q (get_or t i 0)) ≡ true → placed i space (spot q W used (drop i t)) ≡ full (get_or t i 0) i space
unfolding spot
scan_full q W used i space t h s = rw (drop-cons t i 0 h, s, spot) (placed_full (get_or t i 0) i space)

pub scan_feed : (q : Bool) (W used i : ℕ) (space : Option ℕ) (t : List ℕ) → i < length t
    → stops (get_or t i 0) W (used + columns q (get_or t i 0)) ≡ false → get_or t i 0 ≡ 10
    → placed i space (spot q W used (drop i t)) ≡ record { end = i; next = i + 1 }
unfolding spot
scan_feed q W used i space t h s n = rw (drop-cons t i 0 h, s, eq-eqb (get_or t i 0) 10 n, spot, add-zero i)

pub scan_end : (q : Bool) (W used i : ℕ) (space : Option ℕ) (t : List ℕ) → length t ≤ i → placed i space (spot q W used (drop i t)) ≡ record { end = i; next = i }
unfolding spot
scan_end q W used i space t h = rw (drop_of_length-le t h, add-zero i)

-- ---- bounds
-- a spot within n bytes; `at least` bytes are before the next line
record Within (n least : ℕ) (r : Break) : Type 0 where
  order : r.end ≤ r.next
  inside : r.next ≤ n
  some : least ≤ r.next

more_within : (n : ℕ) (s : Spot) → Within n 0 (placed 0 None s) → Within (suc n) 1 (placed 0 None (more s))
more_within n (ends_at a b) w = record { order = omega (arith, w.order); inside = omega (arith, w.inside); some = omega arith }
more_within n (is_full a) w = record { order = omega arith; inside = omega (arith, w.inside); some = omega arith }

space_within : (n : ℕ) (s : Spot) → Within n 0 (placed 0 None s) → Within (suc n) 1 (placed 0 None (more_space s))
space_within n (ends_at a b) w = record { order = omega (arith, w.order); inside = omega (arith, w.inside); some = omega arith }
space_within n (is_full a) w = record { order = omega arith; inside = omega arith; some = omega arith }

-- one byte that is left out is taken as well
one_within : (n : ℕ) → Within (suc n) 1 (placed 0 None (ends_at 0 1))
one_within n = record { order = omega arith; inside = omega arith; some = omega arith }

weaken : {n least : ℕ} {r : Break} → Within n least r → Within n 0 r
weaken w = record { order = w.order; inside = w.inside; some = omega arith }

full_within : (n b : ℕ) → Within (suc n) 0 (placed 0 None (full_at b))
full_within n b =
    cases (eqb b 32) (λ e. rw e (weaken (one_within n)))
    (λ e. cases (eqb b 10) (λ d. rw (e, d) (weaken (one_within n))) (λ d. rw (e, d) (record { order = omega arith; inside = omega arith; some = omega arith })))

go_within : (q : Bool) (W used b : ℕ) (t : List ℕ) (s : Spot) → Within (length t) 0 (placed 0 None s)
    → Within (suc (length t)) 1 (placed 0 None (elim (eqb b 10) [ true ↦ ends_at 0 1 | false ↦ elim (eqb b 32) [ true ↦ more_space s | false ↦ more s ] ]))
go_within q W used b t s w =
    cases (eqb b 10) (λ d. rw d (one_within (length t)))
    (λ d. cases (eqb b 32) (λ e. rw (d, e) (space_within (length t) s w)) (λ e. rw (d, e) (more_within (length t) s w)))

spot_within : (q : Bool) (W used : ℕ) (t : List ℕ) → Within (length t) 0 (placed 0 None (spot q W used t))
unfolding spot
spot_within q W used [] = record { order = omega arith; inside = omega arith; some = omega arith }
spot_within q W used (b ∷ t) =
    let w = spot_within q W (used + columns q b) t in
    cases (stops b W (used + columns q b)) (λ e. rw (e, spot) (full_within (length t) b))
    (λ e. rw (e, spot) (weaken (go_within q W used b t (spot q W (used + columns q b) t) w)))

columns_most : (q : Bool) (b : ℕ) → columns q b ≤ 2
columns_most false b = omega arith
columns_most true b = cases (eqb b 34) (λ e. rw e (omega arith)) (λ e. rw e (omega arith))

-- a byte is taken where two columns are free
spot_some : (q : Bool) (W used : ℕ) (t : List ℕ) → used + 2 ≤ W → 0 < length t → 1 ≤ (placed 0 None (spot q W used t)).next
unfolding spot
spot_some q W used [] h p = absurd (omega arith)
spot_some q W used (b ∷ t) h p =
    let e : ltb W (used + columns q b) ≡ false = le-ltb W (used + columns q b) (omega (arith, columns_most q b)) in
    rw (e, spot) (go_within q W used b t (spot q W (used + columns q b) t) (spot_within q W (used + columns q b) t)).some

-- what a caller of the scanner learns
pub record Breaks (q : Bool) (W used : ℕ) (t : List ℕ) (r : Break) : Type 0 where
  pub is : r ≡ placed 0 None (spot q W used t)
  pub order : r.end ≤ r.next
  pub inside : r.next ≤ length t
  pub some : used + 2 ≤ W → 0 < length t → 0 < r.next

pub breaks : (q : Bool) (W used : ℕ) (t : List ℕ) (r : Break) → placed 0 None (spot q W used t) ≡ r → Breaks q W used t r
breaks q W used t r e =
    let w = spot_within q W used t in
    record {
      is = sym e;
      order = rw e at w.order;
      inside = rw e at w.inside;
      some = λ h p. rw e at (spot_some q W used t h p);
    }

-- ---- the scanner's loop
-- at byte i, with the last space and the columns used before it
pub record Scanning (q : Bool) (W taken : ℕ) (t : List ℕ) (i : ℕ) (space : Option ℕ) (used : ℕ) : Type 0 where
  pub before : IfSome space (λ k. k < i)
  pub few : used ≤ taken + 2 * i
  pub same : placed i space (spot q W used (drop i t)) ≡ placed 0 None (spot q W taken t)

module _ {q : Bool} {W taken used i : ℕ} {t : List ℕ} {space : Option ℕ} (s : Scanning q W taken t i space used) where
  module _ {w : ℕ} {stop : Bool} (l : i < length t) (c : w ≡ columns q (get_or t i 0)) (e : stop ≡ stops (get_or t i 0) W (used + w)) where
    pub scanning_full : {r : Break} → stop ≡ true → r ≡ full (get_or t i 0) i space → Breaks q W taken t r
    scanning_full h f = breaks q W taken t _ (sym s.same ∙ scan_full q W used i space t l (rw c at (sym e ∙ h)) ∙ sym f)

    pub scanning_feed : stop ≡ false → get_or t i 0 ≡ 10 → Breaks q W taken t (record { end = i; next = i + 1 })
    scanning_feed h f = breaks q W taken t _ (sym s.same ∙ scan_feed q W used i space t l (rw c at (sym e ∙ h)) f)

    pub scanning_turn : w ≤ 2 → stop ≡ false → (get_or t i 0 ≡ 10 → ⊥) → Scanning q W taken t (i + 1) (last_space (get_or t i 0) i space) (used + w)
    scanning_turn m h f =
        record {
          before = last_before (get_or t i 0) i space s.before;
          few = omega (arith, s.few);
          same = rw c (sym (scan_turn q W used i space t l (rw c at (sym e ∙ h)) f) ∙ s.same);
        }

  pub scanning_end : length t ≤ i → i ≤ length t → Breaks q W taken t (record { end = length t; next = length t })
  scanning_end l m = let z : i ≡ length t = omega arith in rw z at (breaks q W taken t _ (sym s.same ∙ scan_end q W used i space t l))

-- ---- the join
abbrev line_of : Bool → List ℕ → Spot → Line
line_of q t (ends_at n m) = line_fits (escape q (take n t)) (drop m t)
line_of q t (is_full n) = line_over (escape q (take n t)) (drop n t)

put_more : (b : ℕ) (q : Bool) (t : List ℕ) (s : Spot) → shown q b ≡ b ∷ [] → put b (line_of q t s) ≡ line_of q (b ∷ t) (more s)
put_more b q t (ends_at n m) h = rw h
put_more b q t (is_full n) h = rw h

put_twice : (t : List ℕ) (s : Spot) → put 34 (put 34 (line_of true t s)) ≡ line_of true (34 ∷ t) (more s)
put_twice t (ends_at n m) = refl
put_twice t (is_full n) = refl

put_space_lem : (q : Bool) (t : List ℕ) (s : Spot) → shown q 32 ≡ 32 ∷ [] → put_space t (line_of q t s) ≡ line_of q (32 ∷ t) (more_space s)
put_space_lem q t (ends_at n m) h = rw h
put_space_lem q t (is_full n) h = refl

two_more : (n : ℕ) → n + 2 ≡ suc (suc n)
two_more n = omega arith

-- a quote that is doubled
join_quote : (W used : ℕ) (t : List ℕ) → fill true W (suc (suc used)) t ≡ line_of true t (spot true W (suc (suc used)) t)
    → fill true W used (34 ∷ t) ≡ line_of true (34 ∷ t) (spot true W used (34 ∷ t))
unfolding fill spot
join_quote W used t ih =
    cases (ltb (suc used) W)
    (λ h.
    let z : ltb W (suc (suc used)) ≡ false = le-ltb W (suc (suc used)) (omega (arith, ltb-true (suc used) W h)) in
    rw (h, two_more used, z, fill, spot, ih, two_more used) (put_twice t (spot true W (suc (suc used)) t)))
    (λ h.
    let z : ltb W (suc (suc used)) ≡ true = lt-ltb W (suc (suc used)) (omega (arith, ltb-false (suc used) W h)) in
    rw (h, two_more used, z, fill, spot))

join_feed : (q : Bool) (W used : ℕ) (t : List ℕ) → fill q W used (10 ∷ t) ≡ line_of q (10 ∷ t) (spot q W used (10 ∷ t))
unfolding fill spot
join_feed true W used t = cases (ltb W (used + 1)) (λ h. rw (h, spot)) (λ h. rw (h, spot))
join_feed false W used t = cases (ltb W (used + 1)) (λ h. rw (h, spot)) (λ h. rw (h, spot))

-- a line of W columns with `used` taken has one column free or has not
free : (W used : ℕ) → ltb used W ≡ true → ltb W (suc used) ≡ false
free W used h = le-ltb W (suc used) (omega (arith, ltb-true used W h))

none_free : (W used : ℕ) → ltb used W ≡ false → ltb W (suc used) ≡ true
none_free W used h = lt-ltb W (suc used) (omega (arith, ltb-false used W h))

join_space : (q : Bool) (W used : ℕ) (t : List ℕ) → fill q W (suc used) t ≡ line_of q t (spot q W (suc used) t)
    → fill q W used (32 ∷ t) ≡ line_of q (32 ∷ t) (spot q W used (32 ∷ t))
unfolding fill spot
join_space true W used t ih =
    cases (ltb used W)
    (λ h. rw (h, add-one used, free W used h, fill, spot, ih, add-one used) (put_space_lem true t (spot true W (suc used) t) refl))
    (λ h. rw (h, add-one used, none_free W used h, fill, spot))
join_space false W used t ih =
    cases (ltb used W)
    (λ h. rw (h, add-one used, free W used h, fill, spot, ih, add-one used) (put_space_lem false t (spot false W (suc used) t) refl))
    (λ h. rw (h, add-one used, none_free W used h, fill, spot))

fill_put : (q : Bool) (W used b : ℕ) (t : List ℕ) → (q && eqb b 34) ≡ false → eqb b 10 ≡ false → eqb b 32 ≡ false → (ltb used W || inner b) ≡ true
    → fill q W used (b ∷ t) ≡ put b (fill q W (suc used) t)
unfolding fill
fill_put q W used b t f n s h = rw (f, n, s, h, fill)

fill_over : (q : Bool) (W used b : ℕ) (t : List ℕ) → (q && eqb b 34) ≡ false → eqb b 10 ≡ false → eqb b 32 ≡ false → (ltb used W || inner b) ≡ false
    → fill q W used (b ∷ t) ≡ line_over [] (b ∷ t)
unfolding fill
fill_over q W used b t f n s h = rw (f, n, s, h, fill)

spot_more : (q : Bool) (W used b : ℕ) (t : List ℕ) → columns q b ≡ 1 → eqb b 10 ≡ false → eqb b 32 ≡ false → stops b W (suc used) ≡ false
    → spot q W used (b ∷ t) ≡ more (spot q W (suc used) t)
unfolding spot
spot_more q W used b t c n s h = rw (c, add-one used, h, n, s, spot, c, add-one used)

spot_full : (q : Bool) (W used b : ℕ) (t : List ℕ) → columns q b ≡ 1 → eqb b 10 ≡ false → eqb b 32 ≡ false → stops b W (suc used) ≡ true
    → spot q W used (b ∷ t) ≡ is_full 0
unfolding spot
spot_full q W used b t c n s h = rw (c, add-one used, h, n, s, spot)

-- any other byte
join_other : (q : Bool) (W used b : ℕ) (t : List ℕ) → (q && eqb b 34) ≡ false → columns q b ≡ 1 → shown q b ≡ b ∷ [] → eqb b 10 ≡ false → eqb b 32 ≡ false
    → fill q W (suc used) t ≡ line_of q t (spot q W (suc used) t) → fill q W used (b ∷ t) ≡ line_of q (b ∷ t) (spot q W used (b ∷ t))
join_other q W used b t f c d n s ih =
    let on : stops b W (suc used) ≡ false → (ltb used W || inner b) ≡ true → fill q W used (b ∷ t) ≡ line_of q (b ∷ t) (spot q W used (b ∷ t)) =
    λ z h. rw (fill_put q W used b t f n s h, spot_more q W used b t c n s z, ih) (put_more b q t (spot q W (suc used) t) d) in
    cases (ltb used W) (λ h. on (rw (free W used h)) (rw h))
    (λ h. cases (inner b) (λ i. on (rw (none_free W used h, i)) (rw (h, i)))
    (λ i. rw (fill_over q W used b t f n s (rw (h, i)), spot_full q W used b t c n s (rw (none_free W used h, i)))))

join_34 : (q : Bool) (W used : ℕ) (t : List ℕ) → fill q W (suc used) t ≡ line_of q t (spot q W (suc used) t)
    → fill q W (suc (suc used)) t ≡ line_of q t (spot q W (suc (suc used)) t) → fill q W used (34 ∷ t) ≡ line_of q (34 ∷ t) (spot q W used (34 ∷ t))
join_34 true W used t one two = join_quote W used t two
join_34 false W used t one two = join_other false W used 34 t refl refl refl refl refl one

join_but : (q : Bool) (W used b : ℕ) (t : List ℕ) → eqb b 34 ≡ false → eqb b 10 ≡ false → eqb b 32 ≡ false
    → fill q W (suc used) t ≡ line_of q t (spot q W (suc used) t) → fill q W used (b ∷ t) ≡ line_of q (b ∷ t) (spot q W used (b ∷ t))
join_but true W used b t m n s ih = join_other true W used b t m (rw m) (rw m) n s ih
join_but false W used b t m n s ih = join_other false W used b t refl refl refl n s ih

pub join : (q : Bool) (W used : ℕ) (t : List ℕ) → fill q W used t ≡ line_of q t (spot q W used t)
unfolding fill spot
join q W used [] = refl
join q W used (b ∷ t) =
    let one = join q W (suc used) t in
    cases (eqb b 10) (λ n. rw (eqb-true b 10 n) (join_feed q W used t))
    (λ n. cases (eqb b 32) (λ s. rw (eqb-true b 32 s) (join_space q W used t one))
    (λ s. cases (eqb b 34) (λ m. rw (eqb-true b 34 m) (join_34 q W used t one (join q W (suc (suc used)) t)))
    (λ m. join_but q W used b t m n s one)))

text_of : (q : Bool) (t : List ℕ) (s : Spot) → line_text (line_of q t s) ≡ escape q (take (placed 0 None s).end t)
text_of q t (ends_at n m) = rw zero-add
text_of q t (is_full n) = rw zero-add

rest_of : (q : Bool) (t : List ℕ) (s : Spot) → line_rest (line_of q t s) ≡ drop (placed 0 None s).next t
rest_of q t (ends_at n m) = rw zero-add
rest_of q t (is_full n) = rw zero-add

-- the line that a break stands for, and the text after it
pub line_is : {q : Bool} {W used : ℕ} {t : List ℕ} {r : Break} → Breaks q W used t r → line_text (fill q W used t) ≡ escape q (take r.end t)
line_is {q} {W} {used} {t} {r} b = rw (join q W used t, b.is) (text_of q t (spot q W used t))

pub rest_is : {q : Bool} {W used : ℕ} {t : List ℕ} {r : Break} → Breaks q W used t r → line_rest (fill q W used t) ≡ drop r.next t
rest_is {q} {W} {used} {t} {r} b = rw (join q W used t, b.is) (rest_of q t (spot q W used t))

-- a line takes a byte where two columns are free
pub rest_shorter : (q : Bool) (W used : ℕ) (t : List ℕ) → used + 2 ≤ W → 0 < length t → length (line_rest (fill q W used t)) < length t
rest_shorter q W used t h p =
    let b = breaks q W used t (placed 0 None (spot q W used t)) refl in
    rw (rest_is b, length-drop) (omega (arith, b.some h p))

-- and no more than there are
pub rest_most : (q : Bool) (W used : ℕ) (t : List ℕ) → length (line_rest (fill q W used t)) ≤ length t
rest_most q W used t =
    let b = breaks q W used t (placed 0 None (spot q W used t)) refl in
    rw (rest_is b, length-drop) (omega arith)
