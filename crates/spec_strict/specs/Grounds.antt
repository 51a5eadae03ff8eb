-- The longer proofs of what the strict switch promises.
use Rattle.std.specs.Prelude.{ℕ, ◌≤◌, ◌<◌, Bool, ◌&&◌, ◌||◌, List, [], ◌∷◌, ◌++◌, ◌≡◌, eqb, leb, length, drop}
use Rattle.std.proofs.Math.Bool.{true, false}
use Rattle.std.proofs.Math.Path.{refl}
use Rattle.std.proofs.Common.{sym, ap, ◌∙◌, arith, eqb-true, ne_eqb, le-leb, leb-true}
use Rattle.std.proofs.lemmas.Bool.{eqb-false}
use Rattle.spec_bases.specs.Bases.{coded}
use Rattle.spec_format.specs.Bytes.{pick, bytes, absent, is, all, letter}
use Rattle.spec_format.specs.Impossible.{impossible}
use Rattle.spec_format.specs.Readers.{Ans, got, no, cut, tag}
use Rattle.spec_format.specs.Table.{Table}
use Rattle.spec_format.specs.Origin.{skipped, Letters, at_slash, at_end, bad_byte, keep, letters}
use Rattle.spec_format.specs.Record.{Outcome, was_read, not_read, slashes_later, slashes, slashes_at, promised, counted, with_letters, sequence, read_record, most, placed}
use Rattle.spec_format.specs.Strict.{stray, letters_from, stray_after, stray_in, record_by, letters_fit}
use Rattle.spec_format.specs.declared.Unread.{Unread}
use Rattle.spec_format.specs.declared.Unread.TheVariants as unread
use Rattle.spec_strict.specs.Skipped.{and_both, skipped_none}
use Rattle.spec_strict.specs.Laws.{strictly_read, strictly_clean, strictly_stray}
use Rattle.spec_strict.specs.Comes.{missing, comes_to, comes_short, Comes, comes, plain_letters, never_stray}

-- ---- letters that were read, and stray ones

-- the letters all have codes; `bad` says so of letters that could not be read
abbrev codes : Bool → Letters → Bool
codes bad (at_slash l r) = all coded l
codes bad (at_end l) = all coded l
codes bad (bad_byte r) = bad

keep_coded : (bad : Bool) (b : ℕ) (o : Letters) → coded b ≡ true → codes bad (keep b o) ≡ codes bad o
keep_coded bad b (at_slash l r) e = rw e
keep_coded bad b (at_end l) e = rw e
keep_coded bad b (bad_byte r) e = refl

keep_stray : (b : ℕ) (o : Letters) → coded b ≡ false → codes false (keep b o) ≡ false
keep_stray b (at_slash l r) e = rw e
keep_stray b (at_end l) e = rw e
keep_stray b (bad_byte r) e = refl

-- where no letter is stray those that were read have codes, and the other way round
clean_codes : (s : List ℕ) → stray s ≡ absent → codes true (letters s) ≡ true
unfolding stray letters
clean_codes [] h = refl
clean_codes (b ∷ s) h = go (clean_codes s) (letter b) refl (coded b) refl (eqb b 47) refl (skipped b) refl
  where
    go : (stray s ≡ absent → codes true (letters s) ≡ true) →
        (x : Bool) → letter b ≡ x → (y : Bool) → coded b ≡ y → (z : Bool) → eqb b 47 ≡ z → (w : Bool) → skipped b ≡ w → codes true (letters (b ∷ s)) ≡ true
    go ih true e true f z p w q = rw (letters, e) (keep_coded true b (letters s) f ∙ ih (rw (stray, e, f) at h))
    go ih true e false f z p w q = let k : stray (b ∷ s) ≡ is (b ∷ s) = rw (stray, e, f) in impossible cc
    go ih false e y f true p w q = rw (letters, e, p)
    go ih false e y f false p true q = rw (letters, e, p, q) (ih (rw (stray, e, q) at h))
    go ih false e y f false p false q = rw (letters, e, p, q)

codes_clean : (s : List ℕ) → codes false (letters s) ≡ true → stray s ≡ absent
unfolding stray letters
codes_clean [] h = refl
codes_clean (b ∷ s) h = go (codes_clean s) (letter b) refl (coded b) refl (eqb b 47) refl (skipped b) refl
  where
    go : (codes false (letters s) ≡ true → stray s ≡ absent) →
        (x : Bool) → letter b ≡ x → (y : Bool) → coded b ≡ y → (z : Bool) → eqb b 47 ≡ z → (w : Bool) → skipped b ≡ w → stray (b ∷ s) ≡ absent
    go ih true e true f z p w q =
        let k : codes false (keep b (letters s)) ≡ true = rw (letters, e) at h in
        rw (stray, e, f) (ih (sym (keep_coded false b (letters s) f) ∙ k))
    go ih true e false f z p w q =
        let k : codes false (keep b (letters s)) ≡ true = rw (letters, e) at h in
        impossible (cc (k, keep_stray b (letters s) f))
    go ih false e y f true p true q = let k : skipped b ≡ false = rw (eqb-true b 47 p) in impossible cc
    go ih false e y f true p false q = rw (stray, e, q)
    go ih false e y f false p true q = rw (stray, e, q) (ih (rw (letters, e, p, q) at h))
    go ih false e y f false p false q = rw (stray, e, q)

-- what is read has the letters that were found
slashes_letters : (t : Table) (s : List ℕ) (o : Ans Unit) (x : Table) (rest : List ℕ) → slashes t s o ≡ was_read x rest → x.letters ≡ t.letters
slashes_letters t s (got u r) x rest e = let f : x ≡ t = cc in ap (λ (y : Table). y.letters) f
slashes_letters t s no x rest e = go (slashes_later s) e
  where
    go : (b : Bool) → pick b (not_read unread.NoSlashes) (not_read unread.Unended) ≡ was_read x rest → x.letters ≡ t.letters
    go true k = impossible cc
    go false k = impossible cc
slashes_letters t s cut x rest e = impossible cc

sequence_codes : (bad : Bool) (t : Table) (o : Letters) (x : Table) (rest : List ℕ) → sequence t o ≡ was_read x rest → codes bad o ≡ all coded x.letters
sequence_codes bad t (at_slash l r) x rest e = go (promised t.locus.length (length l)) e
  where
    go : (b : Bool) → pick b (slashes_at (with_letters t l) r) (not_read unread.OtherLength) ≡ was_read x rest → all coded l ≡ all coded x.letters
    go true k = ap (all coded) (sym (slashes_letters (with_letters t l) r (tag (bytes "//") r) x rest k))
    go false k = impossible cc
sequence_codes bad t (at_end l) x rest e = go (counted t.locus.length (length l)) e
  where
    go : (b : Bool) → pick b (was_read (with_letters t l) []) (not_read unread.Unended) ≡ was_read x rest → all coded l ≡ all coded x.letters
    go true k = let f : with_letters t l ≡ x = cc in ap (λ (y : Table). all coded y.letters) f
    go false k = impossible cc
sequence_codes bad t (bad_byte r) x rest e = impossible cc

missing_none : (p : Ans (List ℕ)) → missing p ≡ true → stray_after p ≡ absent
missing_none (got u z) e = impossible cc
missing_none no e = refl
missing_none cut e = refl

-- ---- a record

module _ (s : List ℕ) (t : Table) (rest : List ℕ) (e : read_record s ≡ was_read t rest) where
  clean_fits : stray_in s ≡ absent → all coded t.letters ≡ true
  clean_fits h = go (comes s)
    where
      go : Comes s → all coded t.letters ≡ true
      go (comes_to u z x p n k) = sym (sequence_codes true x (letters z) t rest (sym k ∙ e)) ∙ clean_codes z (rw p at h)
      go (comes_short p n) = rw (plain_letters (read_record s) t rest n e)

  fits_clean : all coded t.letters ≡ true → stray_in s ≡ absent
  fits_clean h = go (comes s)
    where
      go : Comes s → stray_in s ≡ absent
      go (comes_to u z x p n k) = rw p (codes_clean z (sequence_codes false x (letters z) t rest (sym k ∙ e) ∙ h))
      go (comes_short p n) = missing_none (letters_from s) p

module _ (s : List ℕ) (t : Table) (rest : List ℕ) where
  pub record_as_read : (strict : Bool) → record_by strict s ≡ was_read t rest → read_record s ≡ was_read t rest
  unfolding record_by
  record_as_read strict e = strictly_read strict (stray_in s) (read_record s) t rest e

  pub record_codes : (strict : Bool) → record_by strict s ≡ was_read t rest → letters_fit strict t ≡ true
  unfolding record_by
  record_codes false e = refl
  record_codes true e = clean_fits s t rest (record_as_read true e) (strictly_clean (stray_in s) (read_record s) t rest e)

  pub record_alike : (strict : Bool) → read_record s ≡ was_read t rest → letters_fit strict t ≡ true → record_by strict s ≡ was_read t rest
  unfolding record_by
  record_alike false e h = e
  record_alike true e h = rw (fits_clean s t rest e h) e

pub record_stray : (strict : Bool) (s : List ℕ) → record_by strict s ≡ not_read unread.StrayLetter → (z : List ℕ) × (stray_in s ≡ is z)
unfolding record_by
record_stray strict s e = strictly_stray strict (stray_in s) (read_record s) (never_stray s) e

pub stray_refused : (s z : List ℕ) → stray_in s ≡ is z → record_by true s ≡ not_read unread.StrayLetter
unfolding record_by
stray_refused s z e = rw e

-- ---- a record at a place

pub inside_placed : (reader : List ℕ → Outcome) (s : List ℕ) (at : ℕ) → length s ≤ most → at < length s → placed reader s at ≡ reader (drop at s)
inside_placed reader s at m h = rw (le-leb (length s) most m, le-leb at (length s) (omega arith), ne_eqb at (length s) (λ e. omega arith))

-- the place is inside, or all readers are refused alike there
pub data Placing (s : List ℕ) (at : ℕ) : Type 0 where
  lies_inside : length s ≤ most → at < length s → Placing s at
  lies_outside : (why : Unread) → (why ≡ unread.StrayLetter → ⊥) → ((reader : List ℕ → Outcome) → placed reader s at ≡ not_read why) → Placing s at

pub placing : (s : List ℕ) (at : ℕ) → Placing s at
placing s at = go (leb (length s) most) refl (leb at (length s)) refl (eqb at (length s)) refl
  where
    go : (x : Bool) → leb (length s) most ≡ x → (y : Bool) → leb at (length s) ≡ y → (z : Bool) → eqb at (length s) ≡ z → Placing s at
    go false e y f z g = lies_outside unread.BadPlace (λ k. impossible cc) (λ reader. rw e)
    go true e false f z g = lies_outside unread.BadPlace (λ k. impossible cc) (λ reader. rw (e, f))
    go true e true f true g = lies_outside unread.AtEnd (λ k. impossible cc) (λ reader. rw (e, f, g))
    go true e true f false g =
        let n = eqb-false at (length s) g in
        lies_inside (leb-true (length s) most e) (omega (arith, leb-true at (length s) f))

-- what one reader reads at a place another reads there, if it does so with the record that stands there
pub placed_as : (f g : List ℕ → Outcome) (s : List ℕ) (at : ℕ) (t : Table) (rest : List ℕ) → (f (drop at s) ≡ was_read t rest → g (drop at s) ≡ was_read t rest) →
    placed f s at ≡ was_read t rest → placed g s at ≡ was_read t rest
placed_as f g s at t rest h e = go (placing s at)
  where
    go : Placing s at → placed g s at ≡ was_read t rest
    go (lies_inside m k) = inside_placed g s at m k ∙ h (sym (inside_placed f s at m k) ∙ e)
    go (lies_outside why n k) = impossible (cc (k f))

pub placed_read : (f : List ℕ → Outcome) (s : List ℕ) (at : ℕ) (t : Table) (rest : List ℕ) → placed f s at ≡ was_read t rest → f (drop at s) ≡ was_read t rest
placed_read f s at t rest e = go (placing s at)
  where
    go : Placing s at → f (drop at s) ≡ was_read t rest
    go (lies_inside m k) = sym (inside_placed f s at m k) ∙ e
    go (lies_outside why n k) = impossible (cc (k f))

pub placed_stray : (f : List ℕ → Outcome) (s : List ℕ) (at : ℕ) → placed f s at ≡ not_read unread.StrayLetter → (length s ≤ most) × ((at < length s) × (f (drop at s) ≡ not_read unread.StrayLetter))
placed_stray f s at e = go (placing s at)
  where
    go : Placing s at → (length s ≤ most) × ((at < length s) × (f (drop at s) ≡ not_read unread.StrayLetter))
    go (lies_inside m k) = (m, (k, sym (inside_placed f s at m k) ∙ e))
    go (lies_outside why n k) = absurd (n (cc (k f)))

-- ---- the stray letter, and what stands before it

abbrev goes_on : ℕ → Bool
goes_on b = (letter b && coded b) || skipped b

-- over a byte that goes on
stray_on : (b : ℕ) (s : List ℕ) → goes_on b ≡ true → stray (b ∷ s) ≡ stray s
unfolding stray
stray_on b s h = go (letter b) refl (coded b) refl (skipped b) refl
  where
    go : (x : Bool) → letter b ≡ x → (y : Bool) → coded b ≡ y → (z : Bool) → skipped b ≡ z → stray (b ∷ s) ≡ stray s
    go true e true f z g = rw (stray, e, f)
    go true e false f true g = impossible (cc (skipped_none b g))
    go true e false f false g = let k : goes_on b ≡ false = rw (e, f, g) in impossible cc
    go false e y f true g = rw (stray, e, g)
    go false e y f false g = let k : goes_on b ≡ false = rw (e, g) in impossible cc

pub stray_after_lem : (before : List ℕ) (b : ℕ) (rest : List ℕ) → all goes_on before ≡ true → letter b ≡ true → coded b ≡ false → stray (before ++ b ∷ rest) ≡ is (b ∷ rest)
unfolding stray
stray_after_lem [] b rest h e f = rw (stray, e, f)
stray_after_lem (c ∷ before) b rest h e f =
    let k = and_both (goes_on c) (all goes_on before) h in
    stray_on c (before ++ b ∷ rest) k.0 ∙ stray_after_lem before b rest k.1 e f

-- the bytes before the stray letter
abbrev Before : List ℕ → List ℕ → Type 0
Before s z = (before : List ℕ) × ((s ≡ before ++ z) × (all goes_on before ≡ true))

more_before : (b : ℕ) (s z : List ℕ) → goes_on b ≡ true → Before s z → Before (b ∷ s) z
more_before b s z h k = (b ∷ k.0, (ap (λ (x : List ℕ). b ∷ x) k.1.0, rw h k.1.1))

pub before_stray : (s z : List ℕ) → stray s ≡ is z → Before s z
unfolding stray
before_stray [] z h = impossible cc
before_stray (b ∷ s) z h = go (before_stray s z) (letter b) refl (coded b) refl (skipped b) refl
  where
    go : (stray s ≡ is z → Before s z) → (x : Bool) → letter b ≡ x → (y : Bool) → coded b ≡ y → (w : Bool) → skipped b ≡ w → Before (b ∷ s) z
    go ih true e true f w g = more_before b s z (rw (e, f)) (ih (rw (stray, e, f) at h))
    go ih true e false f w g = let k : stray (b ∷ s) ≡ is (b ∷ s) = rw (stray, e, f) in ([], (cc, refl))
    go ih false e y f true g = more_before b s z (rw (e, g)) (ih (rw (stray, e, g) at h))
    go ih false e y f false g = let k : stray (b ∷ s) ≡ absent = rw (stray, e, g) in impossible cc

pub stray_letter : (s z : List ℕ) → stray s ≡ is z → (b : ℕ) × ((rest : List ℕ) × ((z ≡ b ∷ rest) × ((letter b ≡ true) × (coded b ≡ false))))
unfolding stray
stray_letter [] z h = impossible cc
stray_letter (b ∷ s) z h = go (stray_letter s z) (letter b) refl (coded b) refl (skipped b) refl
  where
    go : (stray s ≡ is z → (c : ℕ) × ((rest : List ℕ) × ((z ≡ c ∷ rest) × ((letter c ≡ true) × (coded c ≡ false))))) →
        (x : Bool) → letter b ≡ x → (y : Bool) → coded b ≡ y → (w : Bool) → skipped b ≡ w → (c : ℕ) × ((rest : List ℕ) × ((z ≡ c ∷ rest) × ((letter c ≡ true) × (coded c ≡ false))))
    go ih true e true f w g = ih (rw (stray, e, f) at h)
    go ih true e false f w g = let k : stray (b ∷ s) ≡ is (b ∷ s) = rw (stray, e, f) in (b, (s, (cc, (e, f))))
    go ih false e y f true g = ih (rw (stray, e, g) at h)
    go ih false e y f false g = let k : stray (b ∷ s) ≡ absent = rw (stray, e, g) in impossible cc
