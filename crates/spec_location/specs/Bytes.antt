-- What has a reading: a text of one byte or more, all of 33 to 126, in a feature none of them `/`, and with no more rows than bytes.
use Rattle.std.specs.Prelude.{ℕ, zero, suc, ◌+◌, ◌≤◌, Bool, true, false, ◌&&◌, ◌||◌, ◌≡◌, refl, List, [], ◌∷◌, ◌++◌, length, eqb, leb}
use Rattle.std.proofs.Common.{ap, ◌∙◌, sym, append_assoc, append-nil, arith, leb-true, le-leb, eqb-true, ne_eqb, length-append}
use Rattle.spec_format.specs.Bytes.{pick, May, absent, is, bytes, some, all, between, visible, digit, letter, but, number}
use Rattle.spec_format.specs.Table.{LocationRow}
use Rattle.spec_format.specs.Location.{Found, found, fault, deep, and_then, run, past, behind, base_fine, base_number, leaf_row, range_end, range_from, between_or, after_first, after_less, bases_from, bases}
use Rattle.spec_format.specs.Location.{in_accession, version_colon, accession, leaf_from, leaf, in_gap, gap_end, gap_or, plain, Begin, word, other, begin}
use Rattle.spec_format.specs.Location.{word_row, closed_by, closed, ahead, comma_in, members_in, single, location_from, location, Reading, one, none, too_deep, whole, reading, is_one, rows_one, locates, rows_in}
use Rattle.spec_format.specs.Impossible.{impossible}
use Rattle.spec_location.specs.Tests.{and_left, and_right, or_either, all_append, all_imp}

-- a byte that may stand in a location: `/` only in CONTIG
abbrev pub fits : Bool → ℕ → Bool
fits gaps b = visible b && (but 47 b || gaps)

fits_between : (gaps : Bool) (lo hi b : ℕ) → 48 ≤ lo → hi ≤ 126 → between lo hi b ≡ true → fits gaps b ≡ true
fits_between gaps lo hi b l u h =
    let x : lo ≤ b = leb-true lo b (and_left (leb lo b) _ h) in
    let y : b ≤ hi = leb-true b hi (and_right (leb lo b) _ h) in
    cc (le-leb 33 b (omega arith), le-leb b 126 (omega arith), ne_eqb b 47 (omega arith))

fits_name : (gaps : Bool) (b : ℕ) → in_accession b ≡ true → fits gaps b ≡ true
fits_name gaps b h =
    or_either (letter b) _ h
    (λ l. or_either (between 65 90 b) _ l (λ x. fits_between gaps 65 90 b (omega arith) (omega arith) x) (λ x. fits_between gaps 97 122 b (omega arith) (omega arith) x))
    (λ l. or_either (digit b) _ l (λ x. fits_between gaps 48 57 b (omega arith) (omega arith) x) (λ x. rw (eqb-true b 95 x)))

fits_digit : (gaps : Bool) (b : ℕ) → digit b ≡ true → fits gaps b ≡ true
fits_digit gaps b h = fits_between gaps 48 57 b (omega arith) (omega arith) h

fits_gap : (b : ℕ) → in_gap b ≡ true → fits true b ≡ true
fits_gap b h = go (but 47 b) (and_left (visible b) _ h)
  where
    go : (x : Bool) → visible b ≡ true → (visible b && (x || true)) ≡ true
    go true e = rw e
    go false e = rw e

-- ---- from s to r: the bytes between them may stand in a location, and are m at least

record Over (gaps : Bool) (m : ℕ) (s r : List ℕ) : Type 0 where
  text : List ℕ
  is : s ≡ text ++ r
  fine : all (fits gaps) text ≡ true
  least : m ≤ length text

over_here : (gaps : Bool) (s : List ℕ) → Over gaps 0 s s
over_here gaps s = record { text = []; is = refl; fine = refl; least = omega arith }

over_less : {gaps : Bool} {m : ℕ} {s r : List ℕ} (k : ℕ) → k ≤ m → Over gaps m s r → Over gaps k s r
over_less k h o = record { text = o.text; is = o.is; fine = o.fine; least = omega arith }

over_then : {gaps : Bool} {m n : ℕ} {s r t : List ℕ} → Over gaps m s r → Over gaps n r t → Over gaps (m + n) s t
over_then {gaps} {m} {n} {s} {r} {t} o p =
    record {
      text = o.text ++ p.text;
      is = o.is ∙ ap (λ (z : List ℕ). o.text ++ z) p.is ∙ sym (append_assoc o.text p.text t);
      fine = all_append (fits gaps) o.text p.text o.fine p.fine;
      least = omega (arith, length-append o.text p.text);
    }

over_byte : {gaps : Bool} {m : ℕ} {s r : List ℕ} (b : ℕ) → fits gaps b ≡ true → Over gaps m s r → Over gaps (suc m) (b ∷ s) r
over_byte b h o = record { text = b ∷ o.text; is = ap (λ (z : List ℕ). b ∷ z) o.is; fine = cc; least = omega arith }

-- ---- words, and bytes that pass

pub run_past : (p : ℕ → Bool) (s : List ℕ) → s ≡ run p s ++ past p s
unfolding run past
run_past p [] = refl
run_past p (b ∷ s) = go (run_past p s) (p b) refl
  where
    go : s ≡ run p s ++ past p s → (x : Bool) → p b ≡ x → b ∷ s ≡ run p (b ∷ s) ++ past p (b ∷ s)
    go ih true e = cc
    go ih false e = cc

pub run_all : (p : ℕ → Bool) (s : List ℕ) → all p (run p s) ≡ true
unfolding run
run_all p [] = refl
run_all p (b ∷ s) = go (run_all p s) (p b) refl
  where
    go : all p (run p s) ≡ true → (x : Bool) → p b ≡ x → all p (run p (b ∷ s)) ≡ true
    go ih true e = cc
    go ih false e = cc

run_over : (gaps : Bool) (p : ℕ → Bool) → ((b : ℕ) → p b ≡ true → fits gaps b ≡ true) → (s : List ℕ) → Over gaps (length (run p s)) s (past p s)
run_over gaps p f s = record { text = run p s; is = run_past p s; fine = all_imp p (fits gaps) f (run p s) (run_all p s); least = omega arith }

pub behind_is : (w s r : List ℕ) → behind w s ≡ is r → s ≡ w ++ r
unfolding behind
behind_is [] s r h = cc
behind_is (c ∷ w) [] r h = impossible cc
behind_is (c ∷ w) (b ∷ s) r h = go (behind_is w s r) (eqb b c) refl
  where
    go : (behind w s ≡ is r → s ≡ w ++ r) → (x : Bool) → eqb b c ≡ x → b ∷ s ≡ (c ∷ w) ++ r
    go ih true e = cc (eqb-true b c e, ih (cc))
    go ih false e = impossible cc

word_over : {gaps : Bool} {r : List ℕ} (w s : List ℕ) → all (fits gaps) w ≡ true → behind w s ≡ is r → Over gaps (length w) s r
word_over {gaps} {r} w s h e = record { text = w; is = behind_is w s r e; fine = h; least = omega arith }

-- ---- what is read takes m bytes at least

record Reads {A : Type 0} (gaps : Bool) (m : ℕ) (s : List ℕ) (o : Found A) : Type 0 where
  over : (a : A) (r : List ℕ) → o ≡ found a r → Over gaps m s r

module _ {A : Type 0} {gaps : Bool} {m : ℕ} {s : List ℕ} where
  reads_found : {r : List ℕ} (a : A) → Over gaps m s r → Reads gaps m s (found a r)
  reads_found {r} a o = record { over = λ b z e. let f : r ≡ z = cc in rw f at o }

  reads_fault : Reads {A = A} gaps m s fault
  reads_fault = record { over = λ b z e. impossible cc }

  reads_deep : Reads {A = A} gaps m s deep
  reads_deep = record { over = λ b z e. impossible cc }

  reads_loose : {o : Found A} → Reads gaps m s o → Reads gaps 0 s o
  reads_loose h = record { over = λ a z e. over_less 0 (omega arith) (h.over a z e) }

  reads_after : {n : ℕ} {r : List ℕ} {o : Found A} → Over gaps n s r → Reads gaps m r o → Reads gaps m s o
  reads_after {n} {r} {o} p h = record { over = λ a z e. over_less m (omega arith) (over_then p (h.over a z e)) }

reads_then :
    {A B : Type 0} {gaps : Bool} {m n : ℕ} {s : List ℕ} {o : Found A} {k : A → List ℕ → Found B} → Reads gaps m s o → ((a : A) (r : List ℕ) → Reads gaps n r (k a r)) →
    Reads gaps m s (and_then o k)
reads_then {A} {B} {gaps} {m} {n} {s} {o} {k} h g = go o refl
  where
    go : (x : Found A) → o ≡ x → Reads gaps m s (and_then x k)
    go (found a r) e = record { over = λ b z f. over_less m (omega arith) (over_then (h.over a r e) ((g a r).over b z f)) }
    go fault e = reads_fault
    go deep e = reads_deep

-- ---- numbers, leaves, gaps

number_reads : (gaps : Bool) (s : List ℕ) → Reads gaps 1 s (base_number s)
unfolding base_number
number_reads gaps s = go (run digit s) refl (base_fine (run digit s)) refl
  where
    go : (d : List ℕ) → run digit s ≡ d → (x : Bool) → base_fine (run digit s) ≡ x → Reads gaps 1 s (pick x (found (number 0 (run digit s)) (past digit s)) fault)
    go [] e x f = let g : x ≡ false = sym f ∙ ap base_fine e in rw g reads_fault
    go (b ∷ d) e true f = reads_found _ (over_less 1 (omega (arith, ap length e)) (run_over gaps digit (fits_digit gaps) s))
    go (b ∷ d) e false f = reads_fault

module _ (gaps : Bool) (row : ℕ → ℕ → ℕ → ℕ → LocationRow) where
  to_reads : (f : ℕ → LocationRow) (s : List ℕ) → Reads gaps 1 s (and_then (base_number s) λ m z. found (f m) z)
  to_reads f s = reads_then (number_reads gaps s) (λ m z. reads_found (f m) (over_here gaps z))

  range_reads : (marks n : ℕ) (s : List ℕ) → Reads gaps 1 s (range_from row marks n s)
  range_reads marks n s = go (behind (bytes ">") s) refl
    where
      go : (o : May (List ℕ)) → behind (bytes ">") s ≡ o → Reads gaps 1 s (range_end row marks n o s)
      go (is r) e = reads_after (word_over (bytes ">") s refl e) (to_reads (row 2 (marks + 2) n) r)
      go absent e = to_reads (row 2 marks n) s

  between_reads : (n : ℕ) (s : List ℕ) → Reads gaps 0 s (between_or row n (behind (bytes "^") s) s)
  between_reads n s = go (behind (bytes "^") s) refl
    where
      go : (o : May (List ℕ)) → behind (bytes "^") s ≡ o → Reads gaps 0 s (between_or row n o s)
      go (is r) e = reads_after (word_over (bytes "^") s refl e) (reads_loose (to_reads (row 3 0 n) r))
      go absent e = reads_found (row 1 0 n n) (over_here gaps s)

  first_reads : (n : ℕ) (s : List ℕ) → Reads gaps 0 s (after_first row n (behind (bytes "..") s) s)
  first_reads n s = go (behind (bytes "..") s) refl
    where
      go : (o : May (List ℕ)) → behind (bytes "..") s ≡ o → Reads gaps 0 s (after_first row n o s)
      go (is r) e = reads_after (word_over (bytes "..") s refl e) (reads_loose (range_reads 0 n r))
      go absent e = between_reads n s

  less_reads : (n : ℕ) (s : List ℕ) → Reads gaps 0 s (after_less row n (behind (bytes "..") s))
  less_reads n s = go (behind (bytes "..") s) refl
    where
      go : (o : May (List ℕ)) → behind (bytes "..") s ≡ o → Reads gaps 0 s (after_less row n o)
      go (is r) e = reads_after (word_over (bytes "..") s refl e) (reads_loose (range_reads 1 n r))
      go absent e = reads_fault

  row_reads : (s : List ℕ) → Reads gaps 1 s (bases_from row (behind (bytes "<") s) s)
  row_reads s = go (behind (bytes "<") s) refl
    where
      go : (o : May (List ℕ)) → behind (bytes "<") s ≡ o → Reads gaps 1 s (bases_from row o s)
      go (is r) e = reads_after (word_over (bytes "<") s refl e) (reads_then (number_reads gaps r) less_reads)
      go absent e = reads_then (number_reads gaps s) first_reads

bases_reads : (gaps : Bool) (start long : ℕ) (s : List ℕ) → Reads gaps 1 s (bases start long s)
unfolding bases
bases_reads gaps start long s = row_reads gaps (leaf_row start long) s

accession_over : (gaps : Bool) (s r : List ℕ) → accession s ≡ is r → Over gaps 0 s r
unfolding accession
accession_over gaps s r h = go (some (run in_accession s)) refl (behind (bytes ".") (past in_accession s)) refl
  where
    last : (z : List ℕ) → behind (bytes ".") (past in_accession s) ≡ is z → version_colon (is z) ≡ is r → Over gaps 0 s r
    last z e f = inner (some (run digit z)) refl
      where
        inner : (x : Bool) → some (run digit z) ≡ x → Over gaps 0 s r
        inner true g =
            over_less 0 (omega arith)
            (over_then (run_over gaps in_accession (fits_name gaps) s) (over_then (word_over (bytes ".") (past in_accession s) refl e)
            (over_then (run_over gaps digit (fits_digit gaps) z) (word_over (bytes ":") (past digit z) refl (cc)))))
        inner false g = impossible cc

    go : (x : Bool) → some (run in_accession s) ≡ x → (o : May (List ℕ)) → behind (bytes ".") (past in_accession s) ≡ o → Over gaps 0 s r
    go true e (is z) f = last z f (cc)
    go true e absent f = impossible cc
    go false e o f = impossible cc

leaf_reads : (gaps : Bool) (n : ℕ) (s : List ℕ) → Reads gaps 1 s (leaf n s)
unfolding leaf
leaf_reads gaps n s = go (accession s) refl
  where
    go : (o : May (List ℕ)) → accession s ≡ o → Reads gaps 1 s (leaf_from n s o)
    go (is r) e = reads_after (accession_over gaps s r e) (bases_reads gaps _ _ r)
    go absent e = bases_reads gaps 0 0 s

gap_reads : (n : ℕ) (r : List ℕ) → Reads true 1 r (gap_end n r (behind (bytes ")") (past in_gap r)))
gap_reads n r = go (behind (bytes ")") (past in_gap r)) refl
  where
    go : (o : May (List ℕ)) → behind (bytes ")") (past in_gap r) ≡ o → Reads true 1 r (gap_end n r o)
    go (is z) e = reads_found _ (over_less 1 (omega arith) (over_then (run_over true in_gap fits_gap r) (word_over (bytes ")") (past in_gap r) refl e)))
    go absent e = reads_fault

plain_reads : (gaps : Bool) (n : ℕ) (s : List ℕ) → Reads gaps 1 s (plain gaps n s)
unfolding plain
plain_reads false n s = leaf_reads false n s
plain_reads true n s = go (behind (bytes "gap(") s) refl
  where
    go : (o : May (List ℕ)) → behind (bytes "gap(") s ≡ o → Reads true 1 s (gap_or n s o)
    go (is r) e = reads_after (word_over (bytes "gap(") s refl e) (gap_reads n r)
    go absent e = leaf_reads true n s

-- ---- words and their members

-- rows that were read: one at least, and each has a byte of its own
record ReadsRows (gaps : Bool) (s : List ℕ) (o : Found (List LocationRow)) : Type 0 where
  least : (rows : List LocationRow) (r : List ℕ) → o ≡ found rows r → 1 ≤ length rows
  over : (rows : List LocationRow) (r : List ℕ) → o ≡ found rows r → Over gaps (length rows) s r

module _ {gaps : Bool} {s : List ℕ} where
  rows_found : {r : List ℕ} (rows : List LocationRow) → 1 ≤ length rows → Over gaps (length rows) s r → ReadsRows gaps s (found rows r)
  rows_found {r} rows l o =
      record {
        least = λ l₂ z e. let f : rows ≡ l₂ = cc in rw f at l;
        over = λ l₂ z e.
            let f : rows ≡ l₂ = cc in
            let g : r ≡ z = cc in rw (f, g) at o;
      }

  rows_fault : ReadsRows gaps s fault
  rows_fault = record { least = λ l z e. impossible cc; over = λ l z e. impossible cc }

  rows_deep : ReadsRows gaps s deep
  rows_deep = record { least = λ l z e. impossible cc; over = λ l z e. impossible cc }

  rows_single : {o : Found LocationRow} → Reads gaps 1 s o → ReadsRows gaps s (single o)
  rows_single {o} h = go o refl
    where
      go : (x : Found LocationRow) → o ≡ x → ReadsRows gaps s (single x)
      go (found row r) e = rows_found (row ∷ []) (omega arith) (h.over row r e)
      go fault e = rows_fault
      go deep e = rows_deep

  rows_after : {n : ℕ} {r : List ℕ} {o : Found (List LocationRow)} → Over gaps n s r → ReadsRows gaps r o → ReadsRows gaps s o
  rows_after {n} {r} {o} p h =
      record { least = h.least; over = λ rows z e. over_less (length rows) (omega arith) (over_then p (h.over rows z e)) }

  -- first these, and then more
  rows_ahead : {r : List ℕ} {o : Found (List LocationRow)} (rows : List LocationRow) → Over gaps (length rows) s r → ReadsRows gaps r o → ReadsRows gaps s (ahead rows o)
  rows_ahead {r} {o} rows p h = go o refl
    where
      go : (x : Found (List LocationRow)) → o ≡ x → ReadsRows gaps s (ahead rows x)
      go (found more z) e =
          let l : length (rows ++ more) ≡ length rows + length more = length-append rows more in
          rows_found (rows ++ more) (omega (arith, h.least more z e)) (over_less (length (rows ++ more)) (omega arith) (over_then p (h.over more z e)))
      go fault e = rows_fault
      go deep e = rows_deep

  rows_closed : {o : Found (List LocationRow)} (form : ℕ) → ReadsRows gaps s o → ReadsRows gaps s (closed form o)
  rows_closed {o} form h = go o refl
    where
      go : (x : Found (List LocationRow)) → o ≡ x → ReadsRows gaps s (closed form x)
      go (found rows r) e = inner (behind (bytes ")") r) refl
        where
          inner : (y : May (List ℕ)) → behind (bytes ")") r ≡ y → ReadsRows gaps s (closed_by form rows y)
          inner (is z) f =
              let l : length (rows ++ word_row form (length rows) ∷ []) ≡ length rows + 1 = length-append rows (word_row form (length rows) ∷ []) in
              rows_found (rows ++ word_row form (length rows) ∷ []) (omega arith)
              (over_less (length (rows ++ word_row form (length rows) ∷ [])) (omega arith) (over_then (h.over rows r e) (word_over (bytes ")") r refl f)))
          inner absent f = rows_fault
      go fault e = rows_fault
      go deep e = rows_deep

pub comma_is : (form : ℕ) (s z : List ℕ) → comma_in form s ≡ is z → behind (bytes ",") s ≡ is z
comma_is form s z h = go (eqb form 4) refl
  where
    go : (x : Bool) → eqb form 4 ≡ x → behind (bytes ",") s ≡ is z
    go true e = impossible cc
    go false e = cc

-- one member and a comma, or the last one
module _ (k form : ℕ) (p : List ℕ → Found (List LocationRow)) (s : List ℕ) (rows : List LocationRow) (r : List ℕ) where
  pub members_more : (z : List ℕ) → p s ≡ found rows r → comma_in form r ≡ is z → members_in (suc k) form p s ≡ ahead rows (members_in k form p z)
  unfolding members_in
  members_more z e f = rw (members_in, e, and_then, f)

  pub members_last : p s ≡ found rows r → comma_in form r ≡ absent → members_in (suc k) form p s ≡ found rows r
  unfolding members_in
  members_last e f = rw (members_in, e, and_then, f)

members_read :
    (gaps : Bool) (k form : ℕ) (p : List ℕ → Found (List LocationRow)) → ((s : List ℕ) → ReadsRows gaps s (p s)) → (s : List ℕ) →
    ReadsRows gaps s (members_in k form p s)
unfolding members_in
members_read gaps zero form p h s = rows_fault
members_read gaps (suc k) form p h s = go (λ z. members_read gaps k form p h z) (p s) refl
  where
    go : ((z : List ℕ) → ReadsRows gaps z (members_in k form p z)) → (o : Found (List LocationRow)) → p s ≡ o → ReadsRows gaps s (members_in (suc k) form p s)
    go ih (found rows r) e = inner (comma_in form r) refl
      where
        inner : (y : May (List ℕ)) → comma_in form r ≡ y → ReadsRows gaps s (members_in (suc k) form p s)
        inner (is z) f =
            rw (members_more k form p s rows r z e f)
            (rows_ahead rows ((h s).over rows r e) (rows_after (word_over (bytes ",") r refl (comma_is form r z f)) (ih z)))
        inner absent f = rw (members_last k form p s rows r e f) (rows_found rows ((h s).least rows r e) ((h s).over rows r e))
    go ih fault e = rw (members_in, e) rows_fault
    go ih deep e = rw (members_in, e) rows_deep

-- a word, and then this
begin_over : (gaps : Bool) (s : List ℕ) (form : ℕ) (r : List ℕ) → begin s ≡ word form r → Over gaps 0 s r
unfolding begin
begin_over gaps s form r h = go (behind (bytes "complement(") s) refl (behind (bytes "join(") s) refl (behind (bytes "order(") s) refl
  where
    go :
        (x : May (List ℕ)) → behind (bytes "complement(") s ≡ x → (y : May (List ℕ)) → behind (bytes "join(") s ≡ y → (z : May (List ℕ)) →
        behind (bytes "order(") s ≡ z → Over gaps 0 s r
    go (is x) e y f z g = over_less 0 (omega arith) (word_over (bytes "complement(") s refl (cc))
    go absent e (is y) f z g = over_less 0 (omega arith) (word_over (bytes "join(") s refl (cc))
    go absent e absent f (is z) g = over_less 0 (omega arith) (word_over (bytes "order(") s refl (cc))
    go absent e absent f absent g = impossible cc

from_reads :
    (gaps : Bool) (n left : ℕ) (b : Begin) (s : List ℕ) → ((form : ℕ) (r : List ℕ) → b ≡ word form r → Over gaps 0 s r) →
    ReadsRows gaps s (location_from gaps n left b s)
unfolding location_from
from_reads gaps n zero (word form r) s h = rows_deep
from_reads gaps n (suc left) (word form r) s h =
    rows_closed form
    (rows_after (h form r refl)
    (members_read gaps (suc (length r)) form (λ z. location_from gaps n left (begin z) z) (λ z. from_reads gaps n left (begin z) z (begin_over gaps z)) r))
from_reads gaps n zero other s h = rows_single (plain_reads gaps n s)
from_reads gaps n (suc left) other s h = rows_single (plain_reads gaps n s)

location_reads : (gaps : Bool) (n left : ℕ) (s : List ℕ) → ReadsRows gaps s (location gaps n left s)
location_reads gaps n left s = from_reads gaps n left (begin s) s (begin_over gaps s)

-- ---- the whole text

-- the facts of a text that has a reading
pub record ReadText (gaps : Bool) (t : List ℕ) (rows : List LocationRow) : Type 0 where
  pub bytes : all (fits gaps) t ≡ true
  pub least : 1 ≤ length rows
  pub most : length rows ≤ length t

pub reading_text : (gaps : Bool) (t : List ℕ) (rows : List LocationRow) → reading gaps t ≡ one rows → ReadText gaps t rows
unfolding reading
reading_text gaps t rows h = go (location gaps (length t) 16 t) (location_reads gaps (length t) 16 t) h
  where
    go : (o : Found (List LocationRow)) → ReadsRows gaps t o → whole o ≡ one rows → ReadText gaps t rows
    go (found l []) p e =
        let f : l ≡ rows = cc in
        let o : Over gaps (length rows) t [] = rw f at (p.over l [] refl) in
        let g : t ≡ o.text = o.is ∙ append-nil o.text in
        record { bytes = rw g o.fine; least = rw f at (p.least l [] refl); most = rw g o.least }
    go (found l (b ∷ z)) p e = impossible cc
    go fault p e = impossible cc
    go deep p e = impossible cc

module _ (gaps : Bool) (t : List ℕ) (rows : List LocationRow) (h : reading gaps t ≡ one rows) where
  pub reading_some : some t ≡ true
  reading_some = go t (reading_text gaps t rows h)
    where
      go : (t : List ℕ) → ReadText gaps t rows → some t ≡ true
      go [] f = absurd (omega arith)
      go (b ∷ t) f = refl

  pub reading_visible : all visible t ≡ true
  reading_visible = all_imp (fits gaps) visible (λ b e. and_left (visible b) _ e) t (reading_text gaps t rows h).bytes

pub reading_slash : (t : List ℕ) (rows : List LocationRow) → reading false t ≡ one rows → all (but 47) t ≡ true
reading_slash t rows h = all_imp (fits false) (but 47) no_slash t (reading_text false t rows h).bytes
  where
    no_slash : (b : ℕ) → fits false b ≡ true → but 47 b ≡ true
    no_slash b e = or_either (but 47 b) false (and_right (visible b) _ e) (λ f. f) (λ f. impossible cc)

-- ---- the same of a text that is a location

pub locates_rows : (gaps : Bool) (t : List ℕ) → locates gaps t ≡ true → reading gaps t ≡ one (rows_in gaps t)
locates_rows gaps t h = go (reading gaps t) h
  where
    go : (o : Reading) → is_one o ≡ true → o ≡ one (rows_one o)
    go (one rows) e = refl
    go none e = impossible cc
    go too_deep e = impossible cc

module _ (gaps : Bool) (t : List ℕ) (h : locates gaps t ≡ true) where
  pub locates_some : some t ≡ true
  locates_some = reading_some gaps t (rows_in gaps t) (locates_rows gaps t h)

  pub locates_visible : all visible t ≡ true
  locates_visible = reading_visible gaps t (rows_in gaps t) (locates_rows gaps t h)

  pub locates_least : 1 ≤ length (rows_in gaps t)
  locates_least = (reading_text gaps t (rows_in gaps t) (locates_rows gaps t h)).least

  pub locates_most : length (rows_in gaps t) ≤ length t
  locates_most = (reading_text gaps t (rows_in gaps t) (locates_rows gaps t h)).most

pub locates_slash : (t : List ℕ) → locates false t ≡ true → all (but 47) t ≡ true
locates_slash t h = reading_slash t (rows_in false t) (locates_rows false t h)
