-- The words of a name, met byte by byte: what is left to put of them joined, and whether there are two.
use Rattle.std.specs.Prelude.{ℕ, zero, suc, ◌+◌, ◌-◌, ◌≤◌, ◌≡◌, refl, Bool, true, false, ◌&&◌, ◌||◌, not, List, [], ◌∷◌, ◌++◌, length, get_or, eqb, ltb}
use Rattle.std.proofs.Common.{ap, arith, sub-one, length-append, lt-ltb, eqb-true}
use Rattle.std.proofs.lemmas.Bool.{false≢true}
use Rattle.judge_rooms.specs.Steps.{and_left, and_right}
use Rattle.scan_utf8.specs.Every.{all_append}
use Rattle.spec_format.specs.Bytes.{pick, some, starts, all, between, printing, blank, not_blank, but}
use Rattle.spec_format.specs.Locus.{ahead, tokens}
use Rattle.spec_format.specs.Write.{white, blanked, words, joined}
use Rattle.write_locus_words.specs.declared.Place.{Place}
use Rattle.write_locus_words.specs.declared.Place.TheVariants as place
use Rattle.spec_format.specs.Impossible.{impossible}

-- ---- white space: the three tests of `white`

abbrev pub white_one : ℕ → Bool
white_one a = between 9 13 a || eqb a 32

abbrev pub white_two : ℕ → ℕ → Bool
white_two a b = eqb a 194 && (eqb b 133 || eqb b 160)

abbrev pub white_three : ℕ → ℕ → ℕ → Bool
white_three a b c =
    (eqb a 225 && (eqb b 154 && eqb c 128)) || ((eqb a 226 && (eqb b 128 && (between 128 138 c || (between 168 169 c || eqb c 175)))) ||
    ((eqb a 226 && (eqb b 129 && eqb c 159)) || (eqb a 227 && (eqb b 128 && eqb c 128))))

pub white_is : (a b c : ℕ) → white a b c ≡ pick (white_one a) 1 (pick (white_two a b) 2 (pick (white_three a b c) 3 0))
unfolding white
white_is a b c = refl

-- how many bytes of white space come, of which n are known already
abbrev pub white_from : ℕ → List ℕ → ℕ
white_from zero t = white (get_or t 0 0) (get_or t 1 0) (get_or t 2 0)
white_from (suc n) t = suc n

-- a byte, or a space for one of white space
abbrev pub shown : ℕ → ℕ → ℕ
shown zero b = b
shown (suc w) b = 32

pub blanked_step : (n b : ℕ) (t : List ℕ) → blanked n (b ∷ t) ≡ shown (white_from n (b ∷ t)) b ∷ blanked (white_from n (b ∷ t) - 1) t
unfolding blanked
blanked_step (suc n) b t = rw (sub-one (suc n))
blanked_step zero b t = go (white b (get_or t 0 0) (get_or t 1 0))
  where
    go : (w : ℕ) → elim w [ zero ↦ b ∷ blanked 0 t | suc n ↦ 32 ∷ blanked n t ] ≡ shown w b ∷ blanked (w - 1) t
    go zero = refl
    go (suc n) = rw (sub-one (suc n))

pub blanked_none : (n : ℕ) → blanked n [] ≡ []
unfolding blanked
blanked_none zero = refl
blanked_none (suc n) = refl

-- ---- the places of bytes

abbrev pub closed : Place → Place
closed place.Before = place.Before
closed place.Inside = place.After
closed place.After = place.After

abbrev pub next_place : Place → ℕ → Place
next_place p b = pick (blank b) (closed p) place.Inside

abbrev pub ended : Place → Bool
ended place.Before = false
ended place.Inside = false
ended place.After = true

-- b begins a word that is not the first
abbrev pub second : Place → ℕ → Bool
second p b = ended p && not_blank b

-- what is put for b
abbrev pub cap : Place → ℕ → List ℕ
cap p b = pick (blank b) [] (pick (ended p) (95 ∷ b ∷ []) (b ∷ []))

-- ---- joined words

abbrev pub due : List (List ℕ) → List ℕ
due [] = []
due (w ∷ ws) = 95 ∷ joined (w ∷ ws)

-- what is left to put of the joined words of a text, from here on
unfoldable pub words_left : Place → List ℕ → List ℕ
words_left place.Before l = joined (tokens l)
words_left place.Inside l = pick (starts not_blank l) (joined (tokens l)) (due (tokens l))
words_left place.After l = due (tokens l)

tokens_blank : (b : ℕ) (l : List ℕ) → blank b ≡ true → tokens (b ∷ l) ≡ tokens l
unfolding tokens
tokens_blank b l e = rw (e, tokens)

tokens_inside : (b : ℕ) (l : List ℕ) → blank b ≡ false → starts not_blank l ≡ true → tokens (b ∷ l) ≡ ahead b (tokens l)
unfolding tokens
tokens_inside b l e f = rw (e, f, tokens)

tokens_last : (b : ℕ) (l : List ℕ) → blank b ≡ false → starts not_blank l ≡ false → tokens (b ∷ l) ≡ (b ∷ []) ∷ tokens l
unfolding tokens
tokens_last b l e f = rw (e, f, tokens)

joined_ahead : (b : ℕ) (ts : List (List ℕ)) → joined (ahead b ts) ≡ b ∷ joined ts
unfolding joined
joined_ahead b [] = refl
joined_ahead b (t ∷ []) = refl
joined_ahead b (t ∷ (u ∷ ts)) = refl

joined_last : (b : ℕ) (ts : List (List ℕ)) → joined ((b ∷ []) ∷ ts) ≡ b ∷ due ts
unfolding joined
joined_last b [] = refl
joined_last b (t ∷ ts) = refl

due_some : (ts : List (List ℕ)) (x : List ℕ) (b : ℕ) → joined ts ≡ b ∷ x → due ts ≡ 95 ∷ b ∷ x
unfolding joined
due_some [] x b e = impossible cc
due_some (t ∷ ts) x b e = rw e

-- a word's byte, and what is left after it
joined_byte : (b : ℕ) (l : List ℕ) → blank b ≡ false → joined (tokens (b ∷ l)) ≡ b ∷ words_left place.Inside l
unfolding words_left
joined_byte b l e = go (starts not_blank l) refl
  where
    go : (x : Bool) → starts not_blank l ≡ x → joined (tokens (b ∷ l)) ≡ b ∷ pick (starts not_blank l) (joined (tokens l)) (due (tokens l))
    go true f = rw (tokens_inside b l e f, f) (joined_ahead b (tokens l))
    go false f = rw (tokens_last b l e f, f) (joined_last b (tokens l))

words_blank : (p : Place) (b : ℕ) (l : List ℕ) → blank b ≡ true → words_left p (b ∷ l) ≡ words_left (closed p) l
unfolding words_left
words_blank place.Before b l e = rw (tokens_blank b l e)
words_blank place.Inside b l e = rw (e, tokens_blank b l e)
words_blank place.After b l e = rw (tokens_blank b l e)

words_byte : (p : Place) (b : ℕ) (l : List ℕ) → blank b ≡ false → words_left p (b ∷ l) ≡ pick (ended p) (95 ∷ b ∷ []) (b ∷ []) ++ words_left place.Inside l
unfolding words_left
words_byte place.Before b l e = joined_byte b l e
words_byte place.Inside b l e = rw e (joined_byte b l e)
words_byte place.After b l e = due_some (tokens (b ∷ l)) (words_left place.Inside l) b (joined_byte b l e)

pub words_step : (p : Place) (b : ℕ) (l : List ℕ) → words_left p (b ∷ l) ≡ cap p b ++ words_left (next_place p b) l
words_step p b l = go (blank b) refl
  where
    go : (x : Bool) → blank b ≡ x → words_left p (b ∷ l) ≡ cap p b ++ words_left (next_place p b) l
    go true e = rw e (words_blank p b l e)
    go false e = rw e (words_byte p b l e)

pub words_none : (p : Place) → words_left p [] ≡ []
unfolding words_left tokens joined
words_none place.Before = refl
words_none place.Inside = refl
words_none place.After = refl

pub words_all : (s : List ℕ) → words_left place.Before (blanked 0 s) ≡ joined (words s)
unfolding words_left words
words_all s = refl

-- ---- two words

-- the words of a text are two with those before, from here on
unfoldable pub two_left : Place → List ℕ → Bool
two_left place.Before l = ltb 1 (length (tokens l))
two_left place.Inside l = pick (starts not_blank l) (ltb 1 (length (tokens l))) (some (tokens l))
two_left place.After l = some (tokens l)

two_ahead : (b : ℕ) (ts : List (List ℕ)) → ltb 1 (length (ahead b ts)) ≡ ltb 1 (length ts)
two_ahead b [] = refl
two_ahead b (t ∷ ts) = refl

two_last : (b : ℕ) (ts : List (List ℕ)) → ltb 1 (length ((b ∷ []) ∷ ts)) ≡ some ts
two_last b [] = refl
two_last b (t ∷ ts) = lt-ltb 1 (suc (suc (length ts))) (omega arith)

some_ahead : (b : ℕ) (ts : List (List ℕ)) → some (ahead b ts) ≡ true
some_ahead b [] = refl
some_ahead b (t ∷ ts) = refl

two_inside : (b : ℕ) (l : List ℕ) → blank b ≡ false → ltb 1 (length (tokens (b ∷ l))) ≡ two_left place.Inside l
unfolding two_left
two_inside b l e = go (starts not_blank l) refl
  where
    go : (x : Bool) → starts not_blank l ≡ x → ltb 1 (length (tokens (b ∷ l))) ≡ pick (starts not_blank l) (ltb 1 (length (tokens l))) (some (tokens l))
    go true f = rw (tokens_inside b l e f, f) (two_ahead b (tokens l))
    go false f = rw (tokens_last b l e f, f) (two_last b (tokens l))

some_byte : (b : ℕ) (l : List ℕ) → blank b ≡ false → some (tokens (b ∷ l)) ≡ true
some_byte b l e = go (starts not_blank l) refl
  where
    go : (x : Bool) → starts not_blank l ≡ x → some (tokens (b ∷ l)) ≡ true
    go true f = rw (tokens_inside b l e f) (some_ahead b (tokens l))
    go false f = rw (tokens_last b l e f)

two_blank : (p : Place) (b : ℕ) (l : List ℕ) → blank b ≡ true → two_left p (b ∷ l) ≡ two_left (closed p) l
unfolding two_left
two_blank place.Before b l e = rw (tokens_blank b l e)
two_blank place.Inside b l e = rw (e, tokens_blank b l e)
two_blank place.After b l e = rw (tokens_blank b l e)

two_byte : (p : Place) (b : ℕ) (l : List ℕ) → blank b ≡ false → two_left p (b ∷ l) ≡ (ended p || two_left place.Inside l)
unfolding two_left
two_byte place.Before b l e = two_inside b l e
two_byte place.Inside b l e = rw e (two_inside b l e)
two_byte place.After b l e = some_byte b l e

pub two_step : (p : Place) (b : ℕ) (l : List ℕ) → two_left p (b ∷ l) ≡ (second p b || two_left (next_place p b) l)
two_step p b l = go p (blank b) refl
  where
    go : (p : Place) (x : Bool) → blank b ≡ x → two_left p (b ∷ l) ≡ (second p b || two_left (next_place p b) l)
    go place.Before true e = rw e (two_blank place.Before b l e)
    go place.Inside true e = rw e (two_blank place.Inside b l e)
    go place.After true e = rw e (two_blank place.After b l e)
    go place.Before false e = rw e (two_byte place.Before b l e)
    go place.Inside false e = rw e (two_byte place.Inside b l e)
    go place.After false e = rw e (two_byte place.After b l e)

pub two_none : (p : Place) → two_left p [] ≡ false
unfolding two_left tokens
two_none place.Before = refl
two_none place.Inside = refl
two_none place.After = refl

pub two_all : (s : List ℕ) → two_left place.Before (blanked 0 s) ≡ ltb 1 (length (words s))
unfolding two_left words
two_all s = refl

-- ---- the bytes of the words

and_true : (x : Bool) → (x && true) ≡ x
and_true true = refl
and_true false = refl

-- what is put for a byte but a tab prints if the byte does
cap_prints : (p : Place) (b : ℕ) → but 9 b ≡ true → all printing (cap p b) ≡ printing b
cap_prints p b h = go p (eqb b 32) refl (eqb b 9) refl
  where
    go : (p : Place) (x : Bool) → eqb b 32 ≡ x → (y : Bool) → eqb b 9 ≡ y → all printing (cap p b) ≡ printing b
    go p true e y f = rw (eqb-true b 32 e)
    go p false e true f = let z : not true ≡ true = rw f at h in absurd (false≢true z)
    go place.Before false e false f = rw (e, f) (and_true (printing b))
    go place.Inside false e false f = rw (e, f) (and_true (printing b))
    go place.After false e false f = rw (e, f) (and_true (printing b))

-- a tab is white space, which is not shown
shown_no_tab : (n b : ℕ) (t : List ℕ) → but 9 (shown (white_from n (b ∷ t)) b) ≡ true
unfolding white
shown_no_tab (suc n) b t = refl
shown_no_tab zero b t = go (eqb b 9) refl
  where
    go : (y : Bool) → eqb b 9 ≡ y → but 9 (shown (white b (get_or t 0 0) (get_or t 1 0)) b) ≡ true
    go true e = rw (eqb-true b 9 e)
    go false e = by (white b (get_or t 0 0) (get_or t 1 0))
      where
        by : (w : ℕ) → but 9 (shown w b) ≡ true
        by zero = rw e
        by (suc w) = refl

no_tab : (n : ℕ) (s : List ℕ) → all (but 9) (blanked n s) ≡ true
no_tab n [] = rw (blanked_none n)
no_tab n (b ∷ s) = rw (blanked_step n b s, shown_no_tab n b s) (no_tab (white_from n (b ∷ s) - 1) s)

words_print : (p : Place) (l : List ℕ) → all (but 9) l ≡ true → all printing (words_left p l) ≡ all printing l
words_print p [] h = rw (words_none p)
words_print p (b ∷ l) h =
    let a : all printing (cap p b) ≡ printing b = cap_prints p b (and_left (but 9 b) (all (but 9) l) h) in
    let ih : all printing (words_left (next_place p b) l) ≡ all printing l = words_print (next_place p b) l (and_right (but 9 b) (all (but 9) l) h) in
    rw (words_step p b l, all_append printing (cap p b) (words_left (next_place p b) l), a, ih)

pub blanked_prints : (s : List ℕ) → all printing (joined (words s)) ≡ all printing (blanked 0 s)
blanked_prints s = rw (← (words_all s)) (words_print place.Before (blanked 0 s) (no_tab 0 s))

-- ---- how long the joined words are

-- an underscore stands for a blank
words_length : (p : Place) (l : List ℕ) → length (words_left p l) ≤ pick (ended p) 1 0 + length l
words_length p [] = rw (words_none p) (omega arith)
words_length p (b ∷ l) = rw (words_step p b l, length-append (cap p b) (words_left (next_place p b) l)) (go p (blank b) refl (λ q. words_length q l))
  where
    go : (p : Place) (x : Bool) → blank b ≡ x → ((q : Place) → length (words_left q l) ≤ pick (ended q) 1 0 + length l)
        → length (cap p b) + length (words_left (next_place p b) l) ≤ pick (ended p) 1 0 + suc (length l)
    go place.Before true e ih = rw e (omega (arith, ih place.Before))
    go place.Inside true e ih = rw e (omega (arith, ih place.After))
    go place.After true e ih = rw e (omega (arith, ih place.After))
    go place.Before false e ih = rw e (omega (arith, ih place.Inside))
    go place.Inside false e ih = rw e (omega (arith, ih place.Inside))
    go place.After false e ih = rw e (omega (arith, ih place.Inside))

blanked_length : (n : ℕ) (s : List ℕ) → length (blanked n s) ≡ length s
blanked_length n [] = rw (blanked_none n)
blanked_length n (b ∷ s) = rw (blanked_step n b s) (ap suc (blanked_length (white_from n (b ∷ s) - 1) s))

pub joined_length : (s : List ℕ) → length (joined (words s)) ≤ length s
joined_length s = omega (arith, words_length place.Before (blanked 0 s), blanked_length 0 s, ap length (words_all s))
