-- Locations, CONTIG and comma-broken values: their lines join to the text, and each but the last ends with its last comma that fits, or is full.
use Rattle.std.specs.Prelude.{ℕ, zero, suc, ◌+◌, ◌-◌, ◌≤◌, ◌<◌, Bool, true, false, not, ◌≡◌, refl, List, [], ◌∷◌, ◌++◌, length, take, drop, eqb, leb}
use Rattle.std.proofs.Common.{arith, ap, append-nil, take-append-drop, length-take-le, leb-false}
use Rattle.spec_format.specs.Bytes.{spaces, concat}
use Rattle.spec_format.specs.Wrap.{last_comma, break_at, comma_lines, wrap_location}
use Rattle.spec_public.specs.Public.{no_comma, ends_in_comma, broken_at_commas}
use Rattle.spec_columns.specs.Tests.{both}
use Rattle.spec_columns.specs.Lines.{text_lines, laid}
use Rattle.spec_columns.specs.CommaLines.{broken_line, by_width, Break, BrokenLines}

-- ---- a line

push : (b k : ℕ) (t : List ℕ) → ends_in_comma (take (suc k) t) ≡ true → ends_in_comma (b ∷ take (suc k) t) ≡ true
unfolding ends_in_comma
push b k [] e = let z : ◌≡◌ {A = ℕ} 0 1 = cc in absurd (omega arith)
push b k (c ∷ t) e = e

-- where the last comma of the first n bytes ends: there is none, or the text up to there ends with it
abbrev Comma : ℕ → List ℕ → ℕ → Type 0
Comma n t zero = no_comma (take n t) ≡ true
Comma n t (suc k) = (suc k ≤ n) × (ends_in_comma (take (suc k) t) ≡ true)

last_comma_lem : (n : ℕ) (t : List ℕ) → Comma n t (last_comma n t)
unfolding last_comma ends_in_comma
last_comma_lem zero t = refl
last_comma_lem (suc n) [] = refl
last_comma_lem (suc n) (b ∷ t) = go (last_comma n t) refl (last_comma_lem n t) (eqb b 44) refl
  where
    go : (k : ℕ) → last_comma n t ≡ k → Comma n t k → (x : Bool) → eqb b 44 ≡ x → Comma (suc n) (b ∷ t) (last_comma (suc n) (b ∷ t))
    go (suc k) p c x q = rw (last_comma, p) (omega arith, push b k t c.1)
    go zero p c true q = rw (last_comma, p, q) (omega arith, q)
    go zero p c false q = rw (last_comma, p, q) (both _ _ (ap not q) c)

by_comma : (n : ℕ) (l : List ℕ) → ends_in_comma l ≡ true → broken_line n l ≡ true
by_comma n l p = cc

pub break_at_lem : (n : ℕ) (t : List ℕ) → 0 < n → n < length t → Break n t (break_at n t)
unfolding break_at
break_at_lem n t h g = go (last_comma n t) refl (last_comma_lem n t)
  where
    go : (k : ℕ) → last_comma n t ≡ k → Comma n t k → Break n t (break_at n t)
    go (suc k) p c = rw (break_at, p) (record { some = omega arith; most = c.0; by = by_comma n (take (suc k) t) c.1 })
    go zero p c = rw (break_at, p) (record { some = h; most = omega arith; by = by_width n (take n t) c (length-take-le n t (omega arith)) })

-- ---- all lines

record Pieces (first later indent : ℕ) (t text : List ℕ) : Type 0 where
  line : List ℕ
  lines : List (List ℕ)
  is : text ≡ text_lines indent line lines
  whole : line ++ concat lines ≡ t
  broken : broken_at_commas first later line lines ≡ true

one_line : (first later indent : ℕ) (t : List ℕ) → Pieces first later indent t (t ++ 10 ∷ [])
unfolding text_lines broken_at_commas
one_line first later indent t = record { line = t; lines = []; is = refl; whole = append-nil t; broken = refl }

more_lines :
    (first later indent n : ℕ) (t text : List ℕ) → broken_line first (take n t) ≡ true → Pieces later later indent (drop n t) text →
    Pieces first later indent t (take n t ++ 10 ∷ [] ++ spaces indent ++ text)
unfolding text_lines broken_at_commas
more_lines first later indent n t text h r =
    record {
      line = take n t;
      lines = r.line ∷ r.lines;
      is = rw r.is;
      whole = rw r.whole (take-append-drop n t);
      broken = both _ _ h r.broken;
    }

comma_pieces :
    (n W indent used : ℕ) (t : List ℕ) → indent < W → used < W → Pieces (W - used) (W - indent) indent t (comma_lines n W indent used t)
unfolding comma_lines
comma_pieces zero W indent used t h g = one_line (W - used) (W - indent) indent t
comma_pieces (suc n) W indent used t h g = go (λ s. comma_pieces n W indent indent s h h) (leb (used + length t) W) refl
  where
    go :
        ((s : List ℕ) → Pieces (W - indent) (W - indent) indent s (comma_lines n W indent indent s)) → (x : Bool) → leb (used + length t) W ≡ x →
        Pieces (W - used) (W - indent) indent t (comma_lines (suc n) W indent used t)
    go ih true p = rw (comma_lines, p) (one_line (W - used) (W - indent) indent t)
    go ih false p =
        let l : W < used + length t = leb-false (used + length t) W p in
        let b = break_at_lem (W - used) t (omega arith) (omega arith) in
        rw (comma_lines, p)
        (more_lines (W - used) (W - indent) indent (break_at (W - used) t) t (comma_lines n W indent indent (drop (break_at (W - used) t) t)) b.by
        (ih (drop (break_at (W - used) t) t)))

-- so `wrap_location` lays out its text, where what stands before it leaves the first line a column
pub location_lines :
    (opens : List ℕ → List ℕ → Bool) (W indent : ℕ) (start t : List ℕ) → indent < W → length start < W → ((l : List ℕ) → opens l (start ++ l) ≡ true) →
    BrokenLines opens (suc indent) (W - length start) (W - indent) t (wrap_location W start indent t)
unfolding wrap_location
location_lines opens W indent start t h g o =
    let p = comma_pieces (length t) W indent (length start) t h g in
    record {
      line = p.line;
      lines = p.lines;
      lies = rw p.is (laid opens indent start p.line p.lines (o p.line));
      whole = p.whole;
      broken = p.broken;
    }
