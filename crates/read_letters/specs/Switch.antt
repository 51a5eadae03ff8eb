-- What the letters that are taken say of all letters, and of the stray letter: the bridge from the code's one pass to the definitions' two.
use Rattle.std.specs.Prelude.{ℕ, Bool, true, false, List, [], ◌∷◌, ◌≡◌, refl, T, eqb, length}
use Rattle.std.proofs.Common.{sym, ap, subst, ◌∙◌, eqb-true}
use Rattle.spec_bases.specs.Bases.{set_of, coded}
use Rattle.spec_bases.proofs.Tests.{of_coded}
use Rattle.spec_format.specs.Bytes.{absent, is, letter, starts}
use Rattle.spec_format.specs.Impossible.{impossible}
use Rattle.spec_format.specs.Origin.{Letters, at_slash, at_end, bad_byte, keep, skipped, letters}
use Rattle.spec_format.specs.Record.{Outcome, not_read}
use Rattle.spec_format.specs.Strict.{stray, strictly}
use Rattle.spec_format.specs.declared.Unread.TheVariants as unread
use Rattle.spec_strict.specs.Skipped.{skipped_none}
use Rattle.read_letters.specs.Runs.{taken, letters_by, slash, end, bad, tally, sifted}

-- ---- what has a code is a letter

truth : (b : Bool) → T b → b ≡ true
truth true t = refl
truth false t = absurd t

pub coded_letter : (b : ℕ) → coded b ≡ true → letter b ≡ true
unfolding set_of
coded_letter b c = truth (letter b) (of_coded letter tt b c)

pub taken_letter : (strict : Bool) (b : ℕ) → taken strict b ≡ true → letter b ≡ true
taken_letter false b e = e
taken_letter true b e = coded_letter b e

-- and what is none is not taken
pub not_taken : (strict : Bool) (b : ℕ) → letter b ≡ false → taken strict b ≡ false
not_taken strict b e = go (taken strict b) refl
  where
    go : (x : Bool) → taken strict b ≡ x → taken strict b ≡ false
    go false f = f
    go true f = let k : true ≡ false = sym (taken_letter strict b f) ∙ e in impossible cc

-- ---- with the switch off all letters are taken

pub off_alike : (s : List ℕ) → letters_by false s ≡ letters s
unfolding letters_by letters
off_alike [] = refl
off_alike (b ∷ s) = go (off_alike s) (letter b) refl (eqb b 47) refl (skipped b) refl
  where
    go : letters_by false s ≡ letters s → (x : Bool) → letter b ≡ x → (y : Bool) → eqb b 47 ≡ y → (z : Bool) → skipped b ≡ z → letters_by false (b ∷ s) ≡ letters (b ∷ s)
    go h true e y f z g = rw (letters_by, letters, e, h)
    go h false e true f z g = rw (letters_by, letters, e, f)
    go h false e false f true g = rw (letters_by, letters, e, f, g) h
    go h false e false f false g = rw (letters_by, letters, e, f, g)

-- ---- with it on: where they end as all letters do there is no stray letter; where a letter ends them it is the stray one

-- no stray letter is refused
abbrev pub Unstrayed : Bool → List ℕ → Type 0
Unstrayed false s = Unit
Unstrayed true s = stray s ≡ absent

abbrev pub BadBy : Bool → Bool → List ℕ → List ℕ → Type 0
BadBy true strict s r = (strict ≡ true) × (stray s ≡ is r)
BadBy false strict s r = (letters s ≡ bad_byte r) × Unstrayed strict s

abbrev pub Says : Bool → List ℕ → Letters → Type 0
Says strict s (at_slash l r) = (letters s ≡ at_slash l r) × Unstrayed strict s
Says strict s (at_end l) = (letters s ≡ at_end l) × Unstrayed strict s
Says strict s (bad_byte r) = BadBy (starts letter r) strict s r

-- a byte that cannot stand among letters is none
bad_none : (s : List ℕ) → (r : List ℕ) → letters s ≡ bad_byte r → starts letter r ≡ false
unfolding letters
bad_none [] r h = impossible cc
bad_none (b ∷ s) r h = go (bad_none s) (letter b) refl (eqb b 47) refl (skipped b) refl
  where
    kept : ((r : List ℕ) → letters s ≡ bad_byte r → starts letter r ≡ false) → (x : Letters) → letters s ≡ x → keep b x ≡ bad_byte r → starts letter r ≡ false
    kept ih (at_slash l q) e k = impossible cc
    kept ih (at_end l) e k = impossible cc
    kept ih (bad_byte q) e k = let m : q ≡ r = cc in rw (← m) (ih q e)

    go : ((r : List ℕ) → letters s ≡ bad_byte r → starts letter r ≡ false) → (x : Bool) → letter b ≡ x → (y : Bool) → eqb b 47 ≡ y → (z : Bool) → skipped b ≡ z → starts letter r ≡ false
    go ih true e y f z g = kept ih (letters s) refl (sym (rw (letters, e)) ∙ h)
    go ih false e true f z g = let k : at_slash [] (b ∷ s) ≡ bad_byte r = sym (rw (letters, e, f)) ∙ h in impossible cc
    go ih false e false f true g = ih r (sym (rw (letters, e, f, g)) ∙ h)
    go ih false e false f false g = let k : bad_byte (b ∷ s) ≡ bad_byte r = sym (rw (letters, e, f, g)) ∙ h in let m : b ∷ s ≡ r = cc in rw (← m) e

says_off : (s : List ℕ) (x : Letters) → letters s ≡ x → Says false s x
says_off s (at_slash l r) e = (e, tt)
says_off s (at_end l) e = (e, tt)
says_off s (bad_byte r) e = rw (bad_none s r e) (e, tt)

-- the same after a byte more: a letter with a code, or one that is skipped
module _ (b : ℕ) (s : List ℕ) (t : stray (b ∷ s) ≡ stray s) where
  bad_kept : (x : Bool) (r : List ℕ) → letters (b ∷ s) ≡ keep b (letters s) → BadBy x true s r → BadBy x true (b ∷ s) r
  bad_kept true r e h = (h.0, t ∙ h.1)
  bad_kept false r e h = (e ∙ ap (keep b) h.0, t ∙ h.1)

  says_kept : letters (b ∷ s) ≡ keep b (letters s) → (x : Letters) → Says true s x → Says true (b ∷ s) (keep b x)
  says_kept e (at_slash l r) h = (e ∙ ap (keep b) h.0, t ∙ h.1)
  says_kept e (at_end l) h = (e ∙ ap (keep b) h.0, t ∙ h.1)
  says_kept e (bad_byte r) h = bad_kept (starts letter r) r e h

  bad_skipped : (x : Bool) (r : List ℕ) → letters (b ∷ s) ≡ letters s → BadBy x true s r → BadBy x true (b ∷ s) r
  bad_skipped true r e h = (h.0, t ∙ h.1)
  bad_skipped false r e h = (e ∙ h.0, t ∙ h.1)

  says_skipped : letters (b ∷ s) ≡ letters s → (x : Letters) → Says true s x → Says true (b ∷ s) x
  says_skipped e (at_slash l r) h = (e ∙ h.0, t ∙ h.1)
  says_skipped e (at_end l) h = (e ∙ h.0, t ∙ h.1)
  says_skipped e (bad_byte r) h = bad_skipped (starts letter r) r e h

says_on : (s : List ℕ) → Says true s (letters_by true s)
unfolding letters_by letters stray
says_on [] = (refl, refl)
says_on (b ∷ s) = go (says_on s) (coded b) refl (letter b) refl (eqb b 47) refl (skipped b) refl
  where
    go : Says true s (letters_by true s) → (c : Bool) → coded b ≡ c → (x : Bool) → letter b ≡ x → (y : Bool) → eqb b 47 ≡ y → (z : Bool) → skipped b ≡ z →
        Says true (b ∷ s) (letters_by true (b ∷ s))
    go h true c x e y f z g =
        let l = coded_letter b c in
        rw (letters_by, c) (says_kept b s (rw (stray, l, c)) (rw (letters, l)) (letters_by true s) h)
    go h false c x e true f z g =
        let k : letter b ≡ false = rw (eqb-true b 47 f) in
        let m : skipped b ≡ false = rw (eqb-true b 47 f) in
        rw (letters_by, c, f) (rw (letters, k, f), rw (stray, k, m))
    go h false c true e false f true g = let k : true ≡ false = sym e ∙ skipped_none b g in impossible cc
    go h false c false e false f true g = rw (letters_by, c, f, g) (says_skipped b s (rw (stray, e, g)) (rw (letters, e, f, g)) (letters_by true s) h)
    go h false c true e false f false g = rw (letters_by, c, f, g, e) (refl, rw (stray, e, c))
    go h false c false e false f false g = rw (letters_by, c, f, g, e) (rw (letters, e, f, g), rw (stray, e, g))

pub says : (strict : Bool) (s : List ℕ) → Says strict s (letters_by strict s)
says false s = rw (off_alike s) (says_off s (letters s) refl)
says true s = says_on s

pub unstrayed : (strict : Bool) (s : List ℕ) (o : Outcome) → Unstrayed strict s → strictly strict (stray s) o ≡ o
unstrayed false s o u = refl
unstrayed true s o u = rw u

pub strayed : (strict : Bool) (s r : List ℕ) (o : Outcome) → BadBy true strict s r → strictly strict (stray s) o ≡ not_read unread.StrayLetter
strayed strict s r o h = rw (h.0, h.1)

-- ---- the answers of the count

-- where the letters end well, they are those that are put
abbrev Sifts : List ℕ → Letters → Type 0
Sifts t (at_slash l r) = l ≡ t
Sifts t (at_end l) = l ≡ t
Sifts t (bad_byte r) = Unit

sifts : (s : List ℕ) → Sifts (sifted s) (letters s)
unfolding letters sifted
sifts [] = refl
sifts (b ∷ s) = go (sifts s) (letter b) refl (eqb b 47) refl (skipped b) refl
  where
    kept : (x : Letters) → Sifts (sifted s) x → Sifts (b ∷ sifted s) (keep b x)
    kept (at_slash l r) h = ap (λ (t : List ℕ). b ∷ t) h
    kept (at_end l) h = ap (λ (t : List ℕ). b ∷ t) h
    kept (bad_byte r) h = tt

    go : Sifts (sifted s) (letters s) → (x : Bool) → letter b ≡ x → (y : Bool) → eqb b 47 ≡ y → (z : Bool) → skipped b ≡ z → Sifts (sifted (b ∷ s)) (letters (b ∷ s))
    go h true e y f z g = rw (letters, sifted, e) (kept (letters s) h)
    go h false e true f z g = rw (letters, sifted, e, f) refl
    go h false e false f true g = rw (letters, sifted, e, f, g) h
    go h false e false f false g = rw (letters, sifted, e, f, g) tt

-- an answer of the count, with the letters that are put
pub record SlashCounted (strict : Bool) (s : List ℕ) (n : ℕ) (r : List ℕ) : Type 0 where
  pub is : letters s ≡ at_slash (sifted s) r
  pub counted : length (sifted s) ≡ n
  pub unstrayed : Unstrayed strict s

pub count_slash : (strict : Bool) (s : List ℕ) (n : ℕ) (r : List ℕ) → slash n r ≡ tally (letters_by strict s) → SlashCounted strict s n r
count_slash strict s n r e = go (letters_by strict s) (says strict s) e
  where
    go : (x : Letters) → Says strict s x → slash n r ≡ tally x → SlashCounted strict s n r
    go (at_slash l q) h f =
        let m : n ≡ length l = cc in
        let k : r ≡ q = cc in
        let t : l ≡ sifted s = subst (Sifts (sifted s)) h.0 (sifts s) in
        record { is = h.0 ∙ rw (← t, k); counted = rw (← t, m); unstrayed = h.1 }
    go (at_end l) h f = impossible cc
    go (bad_byte q) h f = impossible cc

pub record EndCounted (strict : Bool) (s : List ℕ) (n : ℕ) : Type 0 where
  pub is : letters s ≡ at_end (sifted s)
  pub counted : length (sifted s) ≡ n
  pub unstrayed : Unstrayed strict s

pub count_end : (strict : Bool) (s : List ℕ) (n : ℕ) → end n ≡ tally (letters_by strict s) → EndCounted strict s n
count_end strict s n e = go (letters_by strict s) (says strict s) e
  where
    go : (x : Letters) → Says strict s x → end n ≡ tally x → EndCounted strict s n
    go (at_slash l q) h f = impossible cc
    go (at_end l) h f =
        let m : n ≡ length l = cc in
        let t : l ≡ sifted s = subst (Sifts (sifted s)) h.0 (sifts s) in
        record { is = h.0 ∙ rw (← t); counted = rw (← t, m); unstrayed = h.1 }
    go (bad_byte q) h f = impossible cc

pub count_bad : (strict : Bool) (s r : List ℕ) → bad r ≡ tally (letters_by strict s) → BadBy (starts letter r) strict s r
count_bad strict s r e = go (letters_by strict s) (says strict s) e
  where
    go : (x : Letters) → Says strict s x → bad r ≡ tally x → BadBy (starts letter r) strict s r
    go (at_slash l q) h f = impossible cc
    go (at_end l) h f = impossible cc
    go (bad_byte q) h f = let k : q ≡ r = cc in subst (λ (z : List ℕ). BadBy (starts letter z) strict s z) k h
