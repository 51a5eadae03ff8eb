-- Ranges, accessions, gaps and words, law by law, in the form in which the goals have their facts. Assumes nothing.
use Prim.Native.Nat.{ℕ, ◌+◌, ◌-◌, ◌≤◌, ◌<◌}
use mathlib.Core.Path.{◌≡◌, refl}
use mathlib.Core.Bool.{Bool, true, false}
use mathlib.Core.List.{List, [], ◌∷◌}
use native.Mathlib.Omega.{arith}
use lib.ListN.{length}
use Rattle.spec_format.specs.Bytes.{May, is, bytes, some, digit}
use Rattle.spec_format.specs.Table.{LocationRow}
use Rattle.spec_format.specs.Location.{Found, fault, run, past, behind, base_number, leaf_row, range_from, after_first, after_less, bases}
use Rattle.spec_format.specs.Location.{in_accession, version_colon, accession, leaf, in_gap, gap_end, plain, other, begin}
use Rattle.scan_location_bytes.specs.declared.Laid.{Laid}
use Rattle.scan_location_bytes.specs.declared.Spot.{Spot}
use Rattle.scan_location_bytes.specs.declared.Word.{Word}
use Rattle.scan_location_bytes.specs.declared.Word.TheVariants as words
use Rattle.scan_location_bytes.specs.Views.{view, total, Ready, Past, Onto, Reached, Ran}
use Rattle.scan_location_bytes.specs.Spots.{past_past, onto_past, past_ready, onto_ready, word_past, word_absent, word_ready}
use Rattle.scan_location.specs.declared.Row.{Row}
use Rattle.scan_location.specs.declared.Number.{Number}
use Rattle.scan_location.specs.declared.Number.TheVariants as numbers
use Rattle.scan_location.specs.declared.Plain.{Plain}
use Rattle.scan_location.specs.declared.Plain.TheVariants as plains
use Rattle.scan_location.specs.declared.Begun.TheVariants as begun
use Rattle.scan_location.specs.Views.{AtNumber, Numbered, row_of, last_of, Plained, Follows, Begins}

-- ---- an answer from a spot, as one from before it

plain_from : {laid : Laid} {s : List ℕ} {p q : Spot} {o : Found LocationRow} (z : Plain) → Past laid s p q → Plained laid s q o z → Plained laid s p o z
plain_from (plains.Row w r) g h = record { by = record { is = h.by.is; past = past_past g h.by.past } }
plain_from plains.Fault g h = record { by = h.by }

-- what it is of, in other words
plain_as : {laid : Laid} {s : List ℕ} {p : Spot} {o x : Found LocationRow} {z : Plain} → x ≡ o → Plained laid s p o z → Plained laid s p x z
plain_as e h = rw e h

word_from : {laid : Laid} {s : List ℕ} {p q : Spot} {o : May (List ℕ)} (z : Word) → Onto laid s p q → Reached laid s q o z → Reached laid s p o z
word_from (words.Past r) g h = record { by = record { is = h.by.is; past = onto_past g h.by.past } }
word_from words.Other g h = record { by = h.by }

past_whole : {laid : Laid} {s : List ℕ} {p q : Spot} → Past laid s p q → Onto laid s p q
past_whole g = record { up = omega (arith, g.up); within = g.within; ahead = omega (arith, g.ahead); below = g.below; total = g.total }

-- ---- the last number of a row

module _ (laid : Laid) (s : List ℕ) (p : Spot) (o : Found ℕ) (r : Number) (h : Numbered laid s p o r) where
  number_at : (v : ℕ) (q : Spot) → r ≡ numbers.Of v q → AtNumber laid s p o v q
  number_at v q e = rw e at h.by

  number_not : r ≡ numbers.Fault → o ≡ fault
  number_not e = rw e at h.by

  pub number_ready : (v : ℕ) (q : Spot) → r ≡ numbers.Of v q → Ready laid s p → Ready laid s q
  number_ready v q e g = past_ready g (number_at v q e).past

  module _ (start long form marks from : ℕ) where
    pub last_of_lem : (v : ℕ) (q : Spot) → r ≡ numbers.Of v q → (w : Row) → row_of w ≡ leaf_row start long form marks from v → Plained laid s p (last_of (leaf_row start long form marks from) o) (plains.Row w q)
    last_of_lem v q e w k = let a = number_at v q e in record { by = record { is = rw (a.is, k); past = a.past } }

    pub last_not : r ≡ numbers.Fault → Plained laid s p (last_of (leaf_row start long form marks from) o) plains.Fault
    last_not e = record { by = rw (number_not e) }

pub ruleset lasts = (last_of_lem, last_not)

-- ---- ranges; `start` and `long` are those of the accession

module _ (laid : Laid) (s : List ℕ) (p : Spot) (start long marks n : ℕ) (r : Word) (h : Reached laid s p (behind (bytes ">") (view laid s p.at)) r) (z : Plain) where
  pub range_marked : (q : Spot) → r ≡ words.Past q → Plained laid s q (last_of (leaf_row start long 2 (marks + 2) n) (base_number (view laid s q.at))) z
      → Plained laid s p (range_from (leaf_row start long) marks n (view laid s p.at)) z
  range_marked q e g = let a = word_past laid s p _ r h q e in plain_as (rw a.is) (plain_from z a.past g)

  pub range_bare : r ≡ words.Other → Plained laid s p (last_of (leaf_row start long 2 marks n) (base_number (view laid s p.at))) z
      → Plained laid s p (range_from (leaf_row start long) marks n (view laid s p.at)) z
  range_bare e g = plain_as (rw (word_absent laid s p _ r h e)) g

pub ruleset ranges = (range_marked, range_bare, word_ready)

module _ (laid : Laid) (s : List ℕ) (p : Spot) (start long n : ℕ) (r : Word) (h : Reached laid s p (behind (bytes "..") (view laid s p.at)) r) where
  pub less_range : (z : Plain) (q : Spot) → r ≡ words.Past q → Plained laid s q (range_from (leaf_row start long) 1 n (view laid s q.at)) z
      → Plained laid s p (after_less (leaf_row start long) n (behind (bytes "..") (view laid s p.at))) z
  less_range z q e g = let a = word_past laid s p _ r h q e in plain_as (rw a.is) (plain_from z a.past g)

  pub less_not : r ≡ words.Other → Plained laid s p (after_less (leaf_row start long) n (behind (bytes "..") (view laid s p.at))) plains.Fault
  less_not e = record { by = rw (word_absent laid s p _ r h e) }

  follows : (z : Plain) → Plained laid s p (after_first (leaf_row start long) n (behind (bytes "..") (view laid s p.at)) (view laid s p.at)) z
      → Follows laid s p (after_first (leaf_row start long) n (behind (bytes "..") (view laid s p.at)) (view laid s p.at)) z
  follows z g = record { from = λ f k. plain_from z k g }

  pub first_range : (z : Plain) (q : Spot) → r ≡ words.Past q → Plained laid s q (range_from (leaf_row start long) 0 n (view laid s q.at)) z
      → Follows laid s p (after_first (leaf_row start long) n (behind (bytes "..") (view laid s p.at)) (view laid s p.at)) z
  first_range z q e g = let a = word_past laid s p _ r h q e in follows z (plain_as (rw a.is) (plain_from z a.past g))

  module _ (e : r ≡ words.Other) (t : Word) (k : Reached laid s p (behind (bytes "^") (view laid s p.at)) t) where
    pub first_between : (z : Plain) (q : Spot) → t ≡ words.Past q → Plained laid s q (last_of (leaf_row start long 3 0 n) (base_number (view laid s q.at))) z
        → Follows laid s p (after_first (leaf_row start long) n (behind (bytes "..") (view laid s p.at)) (view laid s p.at)) z
    first_between z q f g = let a = word_past laid s p _ t k q f in follows z (plain_as (rw (word_absent laid s p _ r h e, a.is)) (plain_from z a.past g))

    pub first_alone : t ≡ words.Other → (w : Row) → row_of w ≡ leaf_row start long 1 0 n n
        → Follows laid s p (after_first (leaf_row start long) n (behind (bytes "..") (view laid s p.at)) (view laid s p.at)) (plains.Row w p)
    first_alone f w g =
        record { from = λ u l. record { by = record { is = rw (word_absent laid s p _ r h e, word_absent laid s p _ t k f, g); past = l } } }

pub ruleset firsts = (less_range, less_not, first_range, first_between, first_alone, word_ready)

module _ (laid : Laid) (s : List ℕ) (p : Spot) (start long : ℕ) (r : Word) (h : Reached laid s p (behind (bytes "<") (view laid s p.at)) r) where
  module _ (q : Spot) (e : r ≡ words.Past q) (m : Number) (k : Numbered laid s q (base_number (view laid s q.at)) m) where
    pub bases_less : (n : ℕ) (t : Spot) → m ≡ numbers.Of n t → (z : Plain) → Plained laid s t (after_less (leaf_row start long) n (behind (bytes "..") (view laid s t.at))) z
        → Plained laid s p (bases start long (view laid s p.at)) z
    unfolding bases
    bases_less n t f z g =
        let a = word_past laid s p _ r h q e in
        let b = number_at laid s q _ m k n t f in
        plain_as (rw (a.is, b.is)) (plain_from z (past_past a.past b.past) g)

    pub bases_less_not : m ≡ numbers.Fault → Plained laid s p (bases start long (view laid s p.at)) plains.Fault
    unfolding bases
    bases_less_not f = record { by = rw ((word_past laid s p _ r h q e).is, number_not laid s q _ m k f) }

  module _ (e : r ≡ words.Other) (m : Number) (k : Numbered laid s p (base_number (view laid s p.at)) m) where
    pub bases_first : (n : ℕ) (t : Spot) → m ≡ numbers.Of n t → (z : Plain) → Follows laid s t (after_first (leaf_row start long) n (behind (bytes "..") (view laid s t.at)) (view laid s t.at)) z
        → Plained laid s p (bases start long (view laid s p.at)) z
    unfolding bases
    bases_first n t f z g =
        let b = number_at laid s p _ m k n t f in plain_as (rw (word_absent laid s p _ r h e, b.is)) (g.from p b.past)

    pub bases_first_not : m ≡ numbers.Fault → Plained laid s p (bases start long (view laid s p.at)) plains.Fault
    unfolding bases
    bases_first_not f = record { by = rw (word_absent laid s p _ r h e, number_not laid s p _ m k f) }

pub ruleset bottoms = (bases_less, bases_less_not, bases_first, bases_first_not, word_ready, number_ready)

-- ---- accessions

some_none : (p q : Spot) (t : List ℕ) → p.off + length t ≡ q.off → q.off ≡ p.off → some t ≡ false
some_none p q [] h e = refl
some_none p q (b ∷ t) h e = absurd (omega arith)

some_more : (p q : Spot) (t : List ℕ) → p.off + length t ≡ q.off → (q.off ≡ p.off → ⊥) → some t ≡ true
some_more p q [] h e = absurd (e (omega arith))
some_more p q (b ∷ t) h e = refl

pub ran_ready : (c : ℕ → Bool) (laid : Laid) (s : List ℕ) (p q : Spot) → Ran c laid s p q → Ready laid s p → Ready laid s q
ran_ready c laid s p q g h = onto_ready h g.onto

module _ (laid : Laid) (s : List ℕ) (p q : Spot) (g : Ran digit laid s p q) where
  pub version_none : q.off ≡ p.off → Reached laid s p (version_colon (is (view laid s p.at))) words.Other
  version_none e = record { by = rw (some_none p q _ g.long e) }

  pub version_some : (q.off ≡ p.off → ⊥) → (z : Word) → Reached laid s q (behind (bytes ":") (view laid s q.at)) z
      → Reached laid s p (version_colon (is (view laid s p.at))) z
  version_some e z h = word_from z g.onto (rw (some_more p q _ g.long e, g.rest) h)

pub ruleset versions = (version_none, version_some, ran_ready)

module _ (laid : Laid) (s : List ℕ) (p q : Spot) (g : Ran in_accession laid s p q) where
  pub accession_none : q.off ≡ p.off → Reached laid s p (accession (view laid s p.at)) words.Other
  unfolding accession
  accession_none e = record { by = rw (some_none p q _ g.long e) }

  module _ (e : q.off ≡ p.off → ⊥) (r : Word) (h : Reached laid s q (behind (bytes ".") (view laid s q.at)) r) where
    pub accession_dot : (t : Spot) → r ≡ words.Past t → (z : Word) → Reached laid s t (version_colon (is (view laid s t.at))) z
        → Reached laid s p (accession (view laid s p.at)) z
    unfolding accession
    accession_dot t f z k =
        let a = word_past laid s q _ r h t f in
        rw (some_more p q _ g.long e, g.rest, a.is) (word_from z (past_whole (onto_past g.onto a.past)) k)

    pub accession_bare : r ≡ words.Other → Reached laid s p (accession (view laid s p.at)) words.Other
    unfolding accession
    accession_bare f = record { by = rw (some_more p q _ g.long e, g.rest, word_absent laid s q _ r h f) }

pub ruleset accessions = (accession_none, accession_dot, accession_bare, ran_ready, word_ready)

module _ (laid : Laid) (s : List ℕ) (p : Spot) (r : Word) (h : Reached laid s p (accession (view laid s p.at)) r) where
  pub leaf_named : (q : Spot) → r ≡ words.Past q → (z : Plain) → Plained laid s q (bases p.off (q.off - p.off - 1) (view laid s q.at)) z
      → Plained laid s p (leaf (total laid s p) (view laid s p.at)) z
  unfolding leaf
  leaf_named q e z g =
      let a = word_past laid s p _ r h q e in
      let l = a.past.total in
      let u = a.past.ahead in
      let x : total laid s p - length (view laid s p.at) ≡ p.off = omega arith in
      let y : length (view laid s p.at) - length (view laid s q.at) - 1 ≡ q.off - p.off - 1 = omega arith in
      plain_as (rw (a.is, x, y)) (plain_from z a.past g)

  pub leaf_bare : r ≡ words.Other → (z : Plain) → Plained laid s p (bases 0 0 (view laid s p.at)) z → Plained laid s p (leaf (total laid s p) (view laid s p.at)) z
  unfolding leaf
  leaf_bare e z g = plain_as (rw (word_absent laid s p _ r h e)) g

  pub leaf_ahead : (q : Spot) → r ≡ words.Past q → p.off ≤ q.off
  leaf_ahead q e = omega (arith, (word_past laid s p _ r h q e).past.ahead)

  pub leaf_long : (q : Spot) → r ≡ words.Past q → 1 ≤ q.off - p.off
  leaf_long q e = omega (arith, (word_past laid s p _ r h q e).past.ahead)

pub ruleset leaves = (leaf_named, leaf_bare, leaf_ahead, leaf_long, word_ready)

-- ---- gaps

module _ (laid : Laid) (s : List ℕ) (p q : Spot) (g : Ran in_gap laid s p q) (r : Word) (h : Reached laid s q (behind (bytes ")") (view laid s q.at)) r) where
  pub gap_closed : (t : Spot) → r ≡ words.Past t
      → Plained laid s p (gap_end (total laid s p) (view laid s p.at) (behind (bytes ")") (past in_gap (view laid s p.at))))
      (plains.Row (record { form = 7; marks = 0; from = 0; to = 0; start = p.off; length = q.off - p.off; inside = 0 }) t)
  gap_closed t e =
      let a = word_past laid s q _ r h t e in
      let l = g.long in
      let x : total laid s p - length (view laid s p.at) ≡ p.off = omega arith in
      let y : length (run in_gap (view laid s p.at)) ≡ q.off - p.off = omega arith in
      record { by = record { is = rw (g.rest, a.is, x, y); past = onto_past g.onto a.past } }

  pub gap_open : r ≡ words.Other → Plained laid s p (gap_end (total laid s p) (view laid s p.at) (behind (bytes ")") (past in_gap (view laid s p.at)))) plains.Fault
  gap_open e = record { by = rw (g.rest, word_absent laid s q _ r h e) }

pub gap_ahead : (c : ℕ → Bool) (laid : Laid) (s : List ℕ) (p q : Spot) → Ran c laid s p q → p.off ≤ q.off
gap_ahead c laid s p q g = g.onto.ahead

pub ruleset gapping = (gap_closed, gap_open, gap_ahead, ran_ready)

module _ (laid : Laid) (s : List ℕ) (p : Spot) (gaps : Bool) (z : Plain) where
  pub plain_none : gaps ≡ false → Plained laid s p (leaf (total laid s p) (view laid s p.at)) z → Plained laid s p (plain gaps (total laid s p) (view laid s p.at)) z
  unfolding plain
  plain_none e g = plain_as (rw e) g

  module _ (e : gaps ≡ true) (r : Word) (h : Reached laid s p (behind (bytes "gap(") (view laid s p.at)) r) where
    pub plain_gap : (q : Spot) → r ≡ words.Past q → Plained laid s q (gap_end (total laid s q) (view laid s q.at) (behind (bytes ")") (past in_gap (view laid s q.at)))) z
        → Plained laid s p (plain gaps (total laid s p) (view laid s p.at)) z
    unfolding plain
    plain_gap q f g = let a = word_past laid s p _ r h q f in plain_as (rw (e, a.is, ← a.past.total)) (plain_from z a.past g)

    pub plain_leaf : r ≡ words.Other → Plained laid s p (leaf (total laid s p) (view laid s p.at)) z → Plained laid s p (plain gaps (total laid s p) (view laid s p.at)) z
    unfolding plain
    plain_leaf f g = plain_as (rw (e, word_absent laid s p _ r h f)) g

pub ruleset planes = (plain_none, plain_gap, plain_leaf, word_ready)

-- ---- the three words

module _ (laid : Laid) (s : List ℕ) (p : Spot) (r : Word) (h : Reached laid s p (behind (bytes "complement(") (view laid s p.at)) r) where
  pub begin_complement : (q : Spot) → r ≡ words.Past q → Begins laid s p (begin (view laid s p.at)) (begun.Word 4 q)
  unfolding begin
  begin_complement q e = let a = word_past laid s p _ r h q e in record { by = record { is = rw a.is; past = a.past } }

  module _ (e : r ≡ words.Other) (t : Word) (k : Reached laid s p (behind (bytes "join(") (view laid s p.at)) t) where
    pub begin_join : (q : Spot) → t ≡ words.Past q → Begins laid s p (begin (view laid s p.at)) (begun.Word 5 q)
    unfolding begin
    begin_join q f = let a = word_past laid s p _ t k q f in record { by = record { is = rw (word_absent laid s p _ r h e, a.is); past = a.past } }

    module _ (f : t ≡ words.Other) (u : Word) (l : Reached laid s p (behind (bytes "order(") (view laid s p.at)) u) where
      pub begin_order : (q : Spot) → u ≡ words.Past q → Begins laid s p (begin (view laid s p.at)) (begun.Word 6 q)
      unfolding begin
      begin_order q g =
          let a = word_past laid s p _ u l q g in
          record { by = record { is = rw (word_absent laid s p _ r h e, word_absent laid s p _ t k f, a.is); past = a.past } }

      pub begin_other : u ≡ words.Other → Begins laid s p (begin (view laid s p.at)) begun.Other
      unfolding begin
      begin_other g = record { by = rw (word_absent laid s p _ r h e, word_absent laid s p _ t k f, word_absent laid s p _ u l g) }

pub ruleset beginning = (begin_complement, begin_join, begin_order, begin_other)
