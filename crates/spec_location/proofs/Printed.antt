-- What a proper tree prints is read as its rows, wherever it stands in a text.
use Prim.Native.Nat.{ℕ, zero, suc, ◌+◌, ◌-◌, ◌≤◌, ◌<◌}
use Rattle.std.specs.Prelude.{Bool, ◌&&◌, ◌||◌, ◌≡◌, length, eqb, leb}
use Rattle.std.proofs.Math.Bool.{true, false}
use Rattle.std.proofs.Math.Path.{refl}
use Rattle.std.proofs.Common.{◌∙◌, leb-true, eqb-true, eq-eqb, length-append}
use mathlib.Core.List.{List, [], ◌∷◌, ◌++◌, append_assoc}
use native.Mathlib.Omega.{arith}
use Rattle.spec_format.specs.Bytes.{pick, May, absent, is, bytes, some, starts, all, digit, letter, but, decimal}
use Rattle.spec_format.specs.Table.{LocationRow}
use Rattle.spec_format.specs.Location.{found, run, past, behind, base_number, leaf_row, range_from, bases_from, bases}
use Rattle.spec_format.specs.Location.{in_accession, version_colon, accession, leaf, in_gap, gap_row, plain, word, other, begin}
use Rattle.spec_format.specs.Location.{closed, comma_in, members_in, location_from, location}
use Rattle.spec_format.specs.Impossible.{impossible}
use Rattle.spec_location.specs.Tests.{and_left, and_right, all_head, all_tail, all_imp}
use Rattle.spec_location.specs.Bytes.{members_more, members_last}
use Rattle.spec_location.specs.Decimals.{decimal_back, decimal_digits, decimal_starts}
use Rattle.spec_location.specs.Grammar.{Bases, base, range, between, Accession, Tree, leaf as leafTree, gap, complement, join, order, Trees, last, before, bases_text, accession_text, leaf_text, printed, printed_all}
use Rattle.spec_location.specs.Grammar.{bases_row, leaf_row_at, closing, rows_at, rows_at_all, number_fine, bases_fine, accession_fine, proper, proper_all, nested, nested_all}
use Rattle.spec_location.specs.Printed.{Follows, nothing, comma, bracket}

-- ---- bytes that pass, and words

run_whole : (p : ℕ → Bool) (x rest : List ℕ) → all p x ≡ true → starts p rest ≡ false → run p (x ++ rest) ≡ x
unfolding run
run_whole p [] [] h k = refl
run_whole p [] (b ∷ rest) h k = rw (run, k)
run_whole p (b ∷ x) rest h k = rw (run, all_head p b x h, run_whole p x rest (all_tail p b x h) k)

past_whole : (p : ℕ → Bool) (x rest : List ℕ) → all p x ≡ true → starts p rest ≡ false → past p (x ++ rest) ≡ rest
unfolding past
past_whole p [] [] h k = refl
past_whole p [] (b ∷ rest) h k = rw (past, k)
past_whole p (b ∷ x) rest h k = rw (past, all_head p b x h) (past_whole p x rest (all_tail p b x h) k)

behind_here : (w r : List ℕ) → behind w (w ++ r) ≡ is r
unfolding behind
behind_here [] r = refl
behind_here (c ∷ w) r = rw (behind, eq-eqb c c refl) (behind_here w r)

-- no word stands where a byte of another kind stands
behind_other : (p : ℕ → Bool) (c : ℕ) (w s : List ℕ) → p c ≡ false → starts p s ≡ true → behind (c ∷ w) s ≡ absent
unfolding behind
behind_other p c w [] h k = refl
behind_other p c w (b ∷ s) h k = go (eqb b c) refl
  where
    go : (x : Bool) → eqb b c ≡ x → behind (c ∷ w) (b ∷ s) ≡ absent
    go true e = impossible (cc (eqb-true b c e))
    go false e = rw (behind, e)

-- nor letters and a bracket, where no bracket follows the letters
abbrev opens : List ℕ → Bool
opens s = starts (λ b. eqb b 40) (past in_accession s)

letters_other : (w s : List ℕ) → all in_accession w ≡ true → opens s ≡ false → behind (w ++ 40 ∷ []) s ≡ absent
unfolding behind past
letters_other [] [] h k = refl
letters_other [] (b ∷ s) h k = go (eqb b 40) refl
  where
    go : (x : Bool) → eqb b 40 ≡ x → behind (40 ∷ []) (b ∷ s) ≡ absent
    go true e = impossible (cc (eqb-true b 40 e))
    go false e = rw (behind, e)
letters_other (c ∷ w) [] h k = refl
letters_other (c ∷ w) (b ∷ s) h k = go (letters_other w s (all_tail in_accession c w h)) (eqb b c) refl
  where
    go : (opens s ≡ false → behind (w ++ 40 ∷ []) s ≡ absent) → (x : Bool) → eqb b c ≡ x → behind ((c ∷ w) ++ 40 ∷ []) (b ∷ s) ≡ absent
    go ih true e =
        let f : in_accession b ≡ true = rw (eqb-true b c e) (all_head in_accession c w h) in
        rw (behind, e) (ih (rw (past, f) at k))
    go ih false e = rw (behind, e)

-- ---- what can follow a location: nothing, a comma or a closing bracket

-- none of these goes on with a number, a name or a mark
record Apart (s : List ℕ) : Type 0 where
  digits : starts digit s ≡ false
  names : starts in_accession s ≡ false
  dot : behind (bytes ".") s ≡ absent
  dots : behind (bytes "..") s ≡ absent
  hat : behind (bytes "^") s ≡ absent
  opening : starts (λ b. eqb b 40) s ≡ false

follows_apart : {s : List ℕ} → Follows s → Apart s
unfolding behind
follows_apart nothing = record { digits = refl; names = refl; dot = refl; dots = refl; hat = refl; opening = refl }
follows_apart (comma s) = record { digits = refl; names = refl; dot = refl; dots = refl; hat = refl; opening = refl }
follows_apart (bracket s) = record { digits = refl; names = refl; dot = refl; dots = refl; hat = refl; opening = refl }

-- ---- numbers

record Fine (n : ℕ) : Type 0 where
  least : 1 ≤ n
  most : n ≤ 4294967295

number_fine_lem : (n : ℕ) → number_fine n ≡ true → Fine n
number_fine_lem n h = record { least = leb-true 1 n (and_left (leb 1 n) _ h); most = leb-true n 4294967295 (and_right (leb 1 n) _ h) }

module _ (n : ℕ) (h : number_fine n ≡ true) (rest : List ℕ) where
  number_read : starts digit rest ≡ false → base_number (decimal n ++ rest) ≡ found n rest
  unfolding base_number
  number_read k =
      let f : Fine n = number_fine_lem n h in
      rw (
        run_whole digit (decimal n) rest (decimal_digits n f.most) k,
        past_whole digit (decimal n) rest (decimal_digits n f.most) k,
        decimal_starts n f.least f.most,
        decimal_back n f.most,
        and_right (leb 1 n) _ h,
      )

  number_starts : starts digit (decimal n ++ rest) ≡ true
  number_starts =
      let f : Fine n = number_fine_lem n h in go (decimal n) (decimal_starts n f.least f.most) (decimal_digits n f.most)
    where
      go : (x : List ℕ) → starts (but 48) x ≡ true → all digit x ≡ true → starts digit (x ++ rest) ≡ true
      go [] e k = impossible cc
      go (b ∷ x) e k = all_head digit b x k

  number_past : starts in_accession rest ≡ false → past in_accession (decimal n ++ rest) ≡ rest
  number_past k = past_whole in_accession (decimal n) rest (all_imp digit in_accession digit_name (decimal n) (decimal_digits n (number_fine_lem n h).most)) k
    where
      digit_name : (b : ℕ) → digit b ≡ true → in_accession b ≡ true
      digit_name b e = go (letter b)
        where
          go : (x : Bool) → (x || (digit b || eqb b 95)) ≡ true
          go true = refl
          go false = rw e

-- ---- bases

module _ (row : ℕ → ℕ → ℕ → ℕ → LocationRow) where
  -- the second number of a range
  to_read : (marks n m : ℕ) (more : Bool) (rest : List ℕ) → number_fine m ≡ true → Follows rest →
      range_from row marks n (pick more (bytes ">") [] ++ (decimal m ++ rest)) ≡ found (row 2 (marks + pick more 2 0) n m) rest
  unfolding behind
  to_read marks n m true rest h k = rw (number_read m h rest (follows_apart k).digits)
  to_read marks n m false rest h k =
      let e : marks + 0 ≡ marks = omega arith in
      rw (behind_other digit 62 [] (decimal m ++ rest) refl (number_starts m h rest), number_read m h rest (follows_apart k).digits, e)

  row_read : (b : Bases) (rest : List ℕ) → bases_fine b ≡ true → Follows rest → bases_from row (behind (bytes "<") (bases_text b ++ rest)) (bases_text b ++ rest) ≡ found (bases_row row b) rest
  unfolding behind
  row_read (base n) rest h k =
      let a : Apart rest = follows_apart k in
      rw (behind_other digit 60 [] (decimal n ++ rest) refl (number_starts n h rest), number_read n h rest a.digits, a.dots, a.hat)
  row_read (range true n more m) rest h k =
      let x : List ℕ = pick more (bytes ">") [] ++ (decimal m ++ rest) in
      let e : (decimal n ++ (46 ∷ 46 ∷ (pick more (bytes ">") [] ++ decimal m))) ++ rest ≡ decimal n ++ (46 ∷ 46 ∷ x) = simp append_assoc in
      rw (e, number_read n (and_left (number_fine n) _ h) (46 ∷ 46 ∷ x) refl) (to_read 1 n m more rest (and_right (number_fine n) _ h) k)
  row_read (range false n more m) rest h k =
      let x : List ℕ = pick more (bytes ">") [] ++ (decimal m ++ rest) in
      let e : (decimal n ++ (46 ∷ 46 ∷ (pick more (bytes ">") [] ++ decimal m))) ++ rest ≡ decimal n ++ (46 ∷ 46 ∷ x) = simp append_assoc in
      let f : number_fine n ≡ true = and_left (number_fine n) _ h in
      rw (e, behind_other digit 60 [] (decimal n ++ (46 ∷ 46 ∷ x)) refl (number_starts n f (46 ∷ 46 ∷ x)), number_read n f (46 ∷ 46 ∷ x) refl)
      (to_read 0 n m more rest (and_right (number_fine n) _ h) k)
  row_read (between n m) rest h k =
      let x : List ℕ = decimal m ++ rest in
      let e : (decimal n ++ (94 ∷ decimal m)) ++ rest ≡ decimal n ++ (94 ∷ x) = simp append_assoc in
      let f : number_fine n ≡ true = and_left (number_fine n) _ h in
      rw (
        e,
        behind_other digit 60 [] (decimal n ++ (94 ∷ x)) refl (number_starts n f (94 ∷ x)),
        number_read n f (94 ∷ x) refl,
        number_read m (and_right (number_fine n) _ h) rest (follows_apart k).digits,
      )

bases_read : (start long : ℕ) (b : Bases) (rest : List ℕ) → bases_fine b ≡ true → Follows rest → bases start long (bases_text b ++ rest) ≡ found (bases_row (leaf_row start long) b) rest
unfolding bases
bases_read start long b rest h k = row_read (leaf_row start long) b rest h k

-- ---- leaves: what stands after the name that a leaf begins with is neither a bracket nor, without an accession, a version

record NoName (s : List ℕ) : Type 0 where
  without : accession s ≡ absent
  closed : opens s ≡ false

no_version : (s : List ℕ) → version_colon (behind (bytes ".") (past in_accession s)) ≡ absent → accession s ≡ absent
unfolding accession
no_version s h = rw h (go (some (run in_accession s)))
  where
    go : (x : Bool) → pick {X = May (List ℕ)} x absent absent ≡ absent
    go true = refl
    go false = refl

no_name : (b : Bases) (rest : List ℕ) → bases_fine b ≡ true → Follows rest → NoName (bases_text b ++ rest)
unfolding run past behind
no_name (base n) rest h k =
    let a : Apart rest = follows_apart k in
    let e : past in_accession (decimal n ++ rest) ≡ rest = number_past n h rest a.names in
    record { without = no_version (decimal n ++ rest) (rw (e, a.dot)); closed = rw e a.opening }
no_name (range true n more m) rest h k = record { without = no_version (bases_text (range true n more m) ++ rest) refl; closed = refl }
no_name (range false n more m) rest h k =
    let x : List ℕ = pick more (bytes ">") [] ++ (decimal m ++ rest) in
    let e : (decimal n ++ (46 ∷ 46 ∷ (pick more (bytes ">") [] ++ decimal m))) ++ rest ≡ decimal n ++ (46 ∷ 46 ∷ x) = simp append_assoc in
    let f : past in_accession (decimal n ++ (46 ∷ 46 ∷ x)) ≡ 46 ∷ 46 ∷ x = number_past n (and_left (number_fine n) _ h) (46 ∷ 46 ∷ x) refl in
    rw e (record { without = no_version (decimal n ++ (46 ∷ 46 ∷ x)) (rw f); closed = rw f })
no_name (between n m) rest h k =
    let x : List ℕ = decimal m ++ rest in
    let e : (decimal n ++ (94 ∷ decimal m)) ++ rest ≡ decimal n ++ (94 ∷ x) = simp append_assoc in
    let f : past in_accession (decimal n ++ (94 ∷ x)) ≡ 94 ∷ x = number_past n (and_left (number_fine n) _ h) (94 ∷ x) refl in
    rw e (record { without = no_version (decimal n ++ (94 ∷ x)) (rw f); closed = rw f })

-- a name, a version and what stands behind the colon
record Named (a : Accession) : Type 0 where
  some_name : some a.name ≡ true
  names : all in_accession a.name ≡ true
  some_version : some a.version ≡ true
  digits : all digit a.version ≡ true

named_fine : (a : Accession) → accession_fine (is a) ≡ true → Named a
named_fine a h =
    let k = and_left (some a.name && all in_accession a.name) _ h in
    let l = and_right (some a.name && all in_accession a.name) _ h in
    record {
      some_name = and_left (some a.name) _ k;
      names = and_right (some a.name) _ k;
      some_version = and_left (some a.version) _ l;
      digits = and_right (some a.version) _ l;
    }

module _ (a : Accession) (h : accession_fine (is a) ≡ true) (y : List ℕ) where
  name_first : accession_text a ++ (58 ∷ y) ≡ a.name ++ (46 ∷ (a.version ++ (58 ∷ y)))
  name_first = simp append_assoc

  name_past : past in_accession (a.name ++ (46 ∷ (a.version ++ (58 ∷ y)))) ≡ 46 ∷ (a.version ++ (58 ∷ y))
  name_past = past_whole in_accession a.name (46 ∷ (a.version ++ (58 ∷ y))) (named_fine a h).names refl

  accession_read : accession (accession_text a ++ (58 ∷ y)) ≡ is y
  unfolding accession behind
  accession_read =
      let f : Named a = named_fine a h in
      rw (
        name_first,
        run_whole in_accession a.name (46 ∷ (a.version ++ (58 ∷ y))) f.names refl,
        name_past,
        f.some_name,
        run_whole digit a.version (58 ∷ y) f.digits refl,
        past_whole digit a.version (58 ∷ y) f.digits refl,
        f.some_version,
      )

  accession_closed : opens (accession_text a ++ (58 ∷ y)) ≡ false
  accession_closed = rw (name_first, name_past)

leaf_closed : (a : May Accession) (b : Bases) (rest : List ℕ) → accession_fine a ≡ true → bases_fine b ≡ true → Follows rest → opens (leaf_text a b ++ rest) ≡ false
leaf_closed absent b rest h g k = (no_name b rest g k).closed
leaf_closed (is a) b rest h g k = rw (append_assoc (accession_text a) (58 ∷ bases_text b) rest) (accession_closed a h (bases_text b ++ rest))

leaf_read :
    (n at : ℕ) (a : May Accession) (b : Bases) (rest : List ℕ) → accession_fine a ≡ true → bases_fine b ≡ true → Follows rest →
    n ≡ at + length (leaf_text a b ++ rest) → leaf n (leaf_text a b ++ rest) ≡ found (leaf_row_at at a b) rest
unfolding leaf
leaf_read n at absent b rest h g k e = rw (no_name b rest g k).without (bases_read 0 0 b rest g k)
leaf_read n at (is a) b rest h g k e =
    let y : List ℕ = bases_text b ++ rest in
    let s : List ℕ = accession_text a ++ (58 ∷ y) in
    let q : (accession_text a ++ (58 ∷ bases_text b)) ++ rest ≡ s = append_assoc (accession_text a) (58 ∷ bases_text b) rest in
    let l : length s ≡ length (accession_text a) + suc (length y) = length-append (accession_text a) (58 ∷ y) in
    let m : n ≡ at + length s = rw q at e in
    let u : n - length s ≡ at = omega arith in
    let v : length s - length y - 1 ≡ length (accession_text a) = omega arith in
    rw (q, accession_read a h y, u, v) (bases_read at (length (accession_text a)) b rest g k)

-- ---- a location that is no word

-- neither a word nor gap( ) stands there
begin_leaf : (s : List ℕ) → opens s ≡ false → begin s ≡ other
unfolding begin
begin_leaf s h = rw (letters_other (bytes "complement") s refl h, letters_other (bytes "join") s refl h, letters_other (bytes "order") s refl h)

plain_leaf : (gaps : Bool) (n : ℕ) (s : List ℕ) → opens s ≡ false → plain gaps n s ≡ leaf n s
unfolding plain
plain_leaf true n s h = rw (letters_other (bytes "gap") s refl h)
plain_leaf false n s h = refl

gap_read :
    (n at : ℕ) (t rest : List ℕ) → all in_gap t ≡ true → n ≡ at + length (printed (gap t) ++ rest) →
    plain true n (printed (gap t) ++ rest) ≡ found (gap_row (at + length (bytes "gap(")) (length t)) rest
unfolding plain printed behind
gap_read n at t rest h e =
    let q : (t ++ 41 ∷ []) ++ rest ≡ t ++ (41 ∷ rest) = append_assoc t (41 ∷ []) rest in
    let m : n ≡ at + suc (suc (suc (suc (length (t ++ (41 ∷ rest)))))) = rw q at e in
    let u : n - length (t ++ (41 ∷ rest)) ≡ at + 4 = omega arith in
    rw (q, past_whole in_gap t (41 ∷ rest) h refl, run_whole in_gap t (41 ∷ rest) h refl, u)

other_read : (gaps : Bool) (n left : ℕ) (s : List ℕ) (row : LocationRow) (r : List ℕ) → begin s ≡ other → plain gaps n s ≡ found row r → location gaps n left s ≡ found (row ∷ []) r
unfolding location_from
other_read gaps n zero s row r e f = rw (e, f)
other_read gaps n (suc left) s row r e f = rw (e, f)

-- ---- words

-- a word whose members are read with one word less, up to its bracket
word_read :
    (gaps : Bool) (n left m form : ℕ) (s x : List ℕ) (rows : List LocationRow) (rest : List ℕ) → begin s ≡ word form x → suc m ≤ left →
    ((l : ℕ) → m ≤ l → members_in (suc (length x)) form (λ z. location gaps n l z) x ≡ found rows (41 ∷ rest)) → location gaps n left s ≡ found (closing form rows) rest
unfolding location_from behind
word_read gaps n zero m form s x rows rest e h f = absurd (omega arith)
word_read gaps n (suc left) m form s x rows rest e h f = rw (e, f left (omega arith))

begin_complement : (x : List ℕ) → begin (bytes "complement(" ++ x) ≡ word 4 x
unfolding begin behind
begin_complement x = refl

begin_join : (x : List ℕ) → begin (bytes "join(" ++ x) ≡ word 5 x
unfolding begin behind
begin_join x = refl

begin_order : (x : List ℕ) → begin (bytes "order(" ++ x) ≡ word 6 x
unfolding begin behind
begin_order x = refl

begin_gap : (x : List ℕ) → begin (bytes "gap(" ++ x) ≡ other
unfolding begin behind
begin_gap x = refl

-- a comma, or none before a bracket
comma_here : (form : ℕ) (s : List ℕ) → eqb form 4 ≡ false → comma_in form (44 ∷ s) ≡ is s
unfolding behind
comma_here form s h = rw h

comma_none : (form : ℕ) (s : List ℕ) → comma_in form (41 ∷ s) ≡ absent
unfolding behind
comma_none form s = go (eqb form 4)
  where
    go : (x : Bool) → pick {X = May (List ℕ)} x absent absent ≡ absent
    go true = refl
    go false = refl

-- ---- trees

-- t is read wherever it stands
abbrev ReadAs : Bool → Tree → Type 0
ReadAs gaps t =
    (n left at : ℕ) (rest : List ℕ) → nested t ≤ left → Follows rest → n ≡ at + length (printed t ++ rest) → location gaps n left (printed t ++ rest) ≡ found (rows_at at t) rest

-- and these, as members before a bracket
abbrev ReadAll : Bool → Trees → Type 0
ReadAll gaps ts =
    (n left at k form : ℕ) (rest : List ℕ) → nested_all ts ≤ left → n ≡ at + length (printed_all ts ++ 41 ∷ rest) → length (printed_all ts ++ 41 ∷ rest) < k → eqb form 4 ≡ false →
    members_in k form (λ z. location gaps n left z) (printed_all ts ++ 41 ∷ rest) ≡ found (rows_at_all at ts) (41 ∷ rest)

tree_leaf : (gaps : Bool) (a : May Accession) (b : Bases) → proper gaps (leafTree a b) ≡ true → ReadAs gaps (leafTree a b)
unfolding proper printed rows_at
tree_leaf gaps a b h n left at rest l k e =
    let f : accession_fine a ≡ true = and_left (accession_fine a) _ h in
    let g : bases_fine b ≡ true = and_right (accession_fine a) _ h in
    let c : opens (leaf_text a b ++ rest) ≡ false = leaf_closed a b rest f g k in
    other_read gaps n left (leaf_text a b ++ rest) (leaf_row_at at a b) rest (begin_leaf (leaf_text a b ++ rest) c)
    (plain_leaf gaps n (leaf_text a b ++ rest) c ∙ leaf_read n at a b rest f g k e)

tree_gap : (gaps : Bool) (t : List ℕ) → proper gaps (gap t) ≡ true → ReadAs gaps (gap t)
unfolding proper printed rows_at
tree_gap true t h n left at rest l k e =
    other_read true n left (printed (gap t) ++ rest) (gap_row (at + 4) (length t)) rest (begin_gap ((t ++ 41 ∷ []) ++ rest)) (gap_read n at t rest h e)
tree_gap false t h n left at rest l k e = impossible cc

tree_complement : (gaps : Bool) (t : Tree) → ReadAs gaps t → ReadAs gaps (complement t)
unfolding printed rows_at nested
tree_complement gaps t ih n left at rest l k e =
    let q : (printed t ++ 41 ∷ []) ++ rest ≡ printed t ++ (41 ∷ rest) = append_assoc (printed t) (41 ∷ []) rest in
    let x : List ℕ = printed t ++ (41 ∷ rest) in
    let m : n ≡ at + length (bytes "complement(" ++ x) = rw q at e in
    rw q
    (word_read gaps n left (nested t) 4 (bytes "complement(" ++ x) x (rows_at (at + 11) t) rest (begin_complement x) l
    (λ i h. members_last (length x) 4 (λ z. location gaps n i z) x (rows_at (at + 11) t) (41 ∷ rest) (ih n i (at + 11) (41 ∷ rest) h (bracket rest) (omega arith)) (comma_none 4 rest)))

-- a word with members: join( ) or order( )
tree_word :
    (gaps : Bool) (ts : Trees) (form : ℕ) (w : List ℕ) → ((x : List ℕ) → begin (w ++ x) ≡ word form x) → eqb form 4 ≡ false → ReadAll gaps ts →
    (n left at : ℕ) (rest : List ℕ) → suc (nested_all ts) ≤ left → n ≡ at + length ((w ++ (printed_all ts ++ bytes ")")) ++ rest) →
    location gaps n left ((w ++ (printed_all ts ++ bytes ")")) ++ rest) ≡ found (closing form (rows_at_all (at + length w) ts)) rest
tree_word gaps ts form w b f ih n left at rest l e =
    let x : List ℕ = printed_all ts ++ (41 ∷ rest) in
    let q : (w ++ (printed_all ts ++ 41 ∷ [])) ++ rest ≡ w ++ x = simp append_assoc in
    let m : n ≡ at + length (w ++ x) = rw q at e in
    let u : length (w ++ x) ≡ length w + length x = length-append w x in
    rw q
    (word_read gaps n left (nested_all ts) form (w ++ x) x (rows_at_all (at + length w) ts) rest (b x) l
    (λ i h. ih n i (at + length w) (suc (length x)) form rest h (omega arith) (omega arith) f))

trees_last : (gaps : Bool) (t : Tree) → ReadAs gaps t → ReadAll gaps (last t)
unfolding printed rows_at nested
trees_last gaps t ih n left at zero form rest l e h f = absurd (omega arith)
trees_last gaps t ih n left at (suc k) form rest l e h f =
    members_last k form (λ z. location gaps n left z) (printed t ++ 41 ∷ rest) (rows_at at t) (41 ∷ rest) (ih n left at (41 ∷ rest) l (bracket rest) e) (comma_none form rest)

trees_before : (gaps : Bool) (t : Tree) (ts : Trees) → ReadAs gaps t → ReadAll gaps ts → ReadAll gaps (before t ts)
unfolding printed rows_at nested
trees_before gaps t ts ih more n left at zero form rest l e h f = absurd (omega arith)
trees_before gaps t ts ih more n left at (suc k) form rest l e h f =
    let y : List ℕ = printed_all ts ++ (41 ∷ rest) in
    let q : (printed t ++ (44 ∷ printed_all ts)) ++ 41 ∷ rest ≡ printed t ++ (44 ∷ y) = append_assoc (printed t) (44 ∷ printed_all ts) (41 ∷ rest) in
    let e₂ : n ≡ at + length (printed t ++ (44 ∷ y)) = rw q at e in
    let h₂ : length (printed t ++ (44 ∷ y)) < suc k = rw q at h in
    let m : length (printed t ++ (44 ∷ y)) ≡ length (printed t) + suc (length y) = length-append (printed t) (44 ∷ y) in
    rw (
      q,
      members_more k form (λ z. location gaps n left z) (printed t ++ (44 ∷ y)) (rows_at at t) (44 ∷ y) y (ih n left at (44 ∷ y) (omega arith) (comma y) e₂) (comma_here form y f),
      more n left (at + length (printed t) + 1) k form rest (omega arith) (omega arith) (omega arith) f,
    )

mutual
  unfolding proper printed rows_at nested

  pub tree_read : (t : Tree) (gaps : Bool) → proper gaps t ≡ true → ReadAs gaps t
  tree_read (leafTree a b) gaps h = tree_leaf gaps a b h
  tree_read (gap t) gaps h = tree_gap gaps t h
  tree_read (complement t) gaps h = tree_complement gaps t (tree_read t gaps h)
  tree_read (join ts) gaps h = λ n left at rest l k e. tree_word gaps ts 5 (bytes "join(") begin_join refl (trees_read ts gaps h) n left at rest l e
  tree_read (order ts) gaps h = λ n left at rest l k e. tree_word gaps ts 6 (bytes "order(") begin_order refl (trees_read ts gaps h) n left at rest l e

  trees_read : (ts : Trees) (gaps : Bool) → proper_all gaps ts ≡ true → ReadAll gaps ts
  trees_read (last t) gaps h = trees_last gaps t (tree_read t gaps h)
  trees_read (before t ts) gaps h = trees_before gaps t ts (tree_read t gaps (and_left (proper gaps t) _ h)) (trees_read ts gaps (and_right (proper gaps t) _ h))
