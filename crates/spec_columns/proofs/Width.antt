-- Lines that the writer wraps have at most W columns.
use Rattle.std.specs.Prelude.{ℕ, zero, suc, ◌+◌, ◌-◌, ◌≤◌, ◌<◌, Bool, true, false, ◌&&◌, ◌||◌, ◌≡◌, refl, List, [], ◌∷◌, ◌++◌, length, take, drop, eqb, ltb, leb}
use Rattle.std.proofs.Common.{not-suc-le-zero, arith, append_assoc, length-append, length-take, length-drop, ltb-true, leb-true, leb-false}
use Rattle.std.proofs.Math.Nat.{min-le_left}
use Rattle.std.proofs.lemmas.List.{length-replicate}
use Rattle.spec_format.specs.Bytes.{spaces}
use Rattle.spec_format.specs.Wrap.{Line, line_fits, line_over, line_text, line_rest, put, put_space, inner, fill, closing, lines_after, wrapped, wrap_text, break_at, comma_lines, wrap_location}
use Rattle.spec_public.specs.Public.{within}
use Rattle.spec_columns.proofs.CommaLines.{break_at_lem}
use Rattle.spec_columns.specs.Width.{more_left, one_byte, line_end_lem, some_bytes, Narrow, narrow_bytes, narrow_start, narrow_end, Fine, fine_byte}

-- ---- columns left

-- and one inside a character none
inner_byte : (W n b : ℕ) (t : List ℕ) → eqb b 10 ≡ false → inner b ≡ true → within W n t ≡ true → within W n (b ∷ t) ≡ true
unfolding within
inner_byte W n b t p q e = rw (within, p, q) e

-- a further line
narrow_next : (W left indent : ℕ) (x : List ℕ) → indent ≤ W → Narrow W (W - indent) x → Narrow W left (10 ∷ [] ++ spaces indent ++ x)
unfolding Narrow
narrow_next W left indent x h p y e =
    let l : length (spaces indent) ≡ indent = length-replicate {A = ℕ} indent 32 in
    rw (append_assoc (10 ∷ [] ++ spaces indent) x y) (line_end_lem W left (spaces indent ++ (x ++ y))
    (some_bytes W W (spaces indent) (x ++ y) (omega arith) (omega arith) (rw l (p y e))))

-- bytes of a line, and a further line
narrow_broken :
    (W left indent : ℕ) (a x : List ℕ) → left ≤ W → length a ≤ left → indent ≤ W → Narrow W (W - indent) x →
    Narrow W left (a ++ 10 ∷ [] ++ spaces indent ++ x)
narrow_broken W left indent a x h g k p =
    let e : a ++ 10 ∷ [] ++ spaces indent ++ x ≡ a ++ (10 ∷ [] ++ spaces indent ++ x) = simp append_assoc in
    rw e (narrow_bytes W left a (10 ∷ [] ++ spaces indent ++ x) h g (narrow_next W (left - length a) indent x k p))

-- ---- wrapped text

fine_none : (W used : ℕ) → Fine W used []
fine_none W used y e = let z : W - (used + 0) ≡ W - used = omega arith in rw z at e

fine_inner : (W used b : ℕ) (l : List ℕ) → eqb b 10 ≡ false → inner b ≡ true → Fine W (suc used) l → Fine W used (b ∷ l)
fine_inner W used b l p q f y e =
    let z : W - (used + length (b ∷ l)) ≡ W - (suc used + length l) = omega arith in
    inner_byte W (W - used) b (l ++ y) p q (more_left W (W - suc used) (W - used) (l ++ y) (omega arith) (f y (rw z at e)))

put_text : (b : ℕ) (x : Line) → line_text (put b x) ≡ b ∷ line_text x
put_text b (line_fits l r) = refl
put_text b (line_over l r) = refl

put_fine : (W used b : ℕ) (x : Line) → used < W → Fine W (suc used) (line_text x) → Fine W used (line_text (put b x))
put_fine W used b x h f = rw (put_text b x) (fine_byte W used b (line_text x) h f)

inner_fine : (W used b : ℕ) (x : Line) → eqb b 10 ≡ false → inner b ≡ true → Fine W (suc used) (line_text x) → Fine W used (line_text (put b x))
inner_fine W used b x p q f = rw (put_text b x) (fine_inner W used b (line_text x) p q f)

space_fine : (W used : ℕ) (t : List ℕ) (x : Line) → used < W → Fine W (suc used) (line_text x) → Fine W used (line_text (put_space t x))
space_fine W used t (line_fits l r) h f = fine_byte W used 32 l h f
space_fine W used t (line_over l r) h f = fine_none W used

or_either : (a b : Bool) → (a || b) ≡ true → a ≡ false → b ≡ true
or_either true b p q = let z : ◌≡◌ {A = ℕ} 0 1 = cc in absurd (omega arith)
or_either false b p q = p

fill_fine : (q : Bool) (W used : ℕ) (t : List ℕ) → Fine W used (line_text (fill q W used t))
unfolding fill
fill_fine q W used [] = fine_none W used
fill_fine q W used (b ∷ t) =
    go (λ n. fill_fine q W n t) (q && eqb b 34) refl (eqb b 10) refl (eqb b 32) refl (ltb (suc used) W) refl (ltb used W) refl (ltb used W || inner b) refl
  where
    go :
        ((n : ℕ) → Fine W n (line_text (fill q W n t))) → (d : Bool) → (q && eqb b 34) ≡ d → (f : Bool) → eqb b 10 ≡ f → (s : Bool) → eqb b 32 ≡ s →
        (x : Bool) → ltb (suc used) W ≡ x → (y : Bool) → ltb used W ≡ y → (z : Bool) → (ltb used W || inner b) ≡ z → Fine W used (line_text (fill q W used (b ∷ t)))
    go ih true p f pf s ps true px y py z pz =
        let h : suc used < W = ltb-true (suc used) W px in
        rw (fill, p, px)
        (put_fine W used 34 (put 34 (fill q W (suc (suc used)) t)) (omega arith)
        (put_fine W (suc used) 34 (fill q W (suc (suc used)) t) h (ih (suc (suc used)))))
    go ih true p f pf s ps false px y py z pz = rw (fill, p, px) (fine_none W used)
    go ih false p true pf s ps x px y py z pz = rw (fill, p, pf) (fine_none W used)
    go ih false p false pf true ps x px true py z pz =
        rw (fill, p, pf, ps, py) (space_fine W used t (fill q W (suc used) t) (ltb-true used W py) (ih (suc used)))
    go ih false p false pf true ps x px false py z pz = rw (fill, p, pf, ps, py) (fine_none W used)
    go ih false p false pf false ps x px true py true pz =
        rw (fill, p, pf, ps, pz) (put_fine W used b (fill q W (suc used) t) (ltb-true used W py) (ih (suc used)))
    go ih false p false pf false ps x px false py true pz =
        rw (fill, p, pf, ps, pz) (inner_fine W used b (fill q W (suc used) t) pf (or_either (ltb used W) (inner b) pz py) (ih (suc used)))
    go ih false p false pf false ps x px y py false pz = rw (fill, p, pf, ps, pz) (fine_none W used)

quote_narrow : (W left : ℕ) → 0 < left → left ≤ W → Narrow W left (34 ∷ 10 ∷ [])
unfolding Narrow
quote_narrow W zero h g y e = absurd (not-suc-le-zero h)
quote_narrow W (suc n) h g y e = one_byte W n 34 (10 ∷ y) (omega arith) (line_end_lem W n y e)

closing_narrow : (q : Bool) (W indent used : ℕ) → indent < W → Narrow W (W - used) (closing q W indent used)
unfolding closing
closing_narrow false W indent used h = narrow_end W (W - used)
closing_narrow true W indent used h = go (ltb used W) refl
  where
    go : (x : Bool) → ltb used W ≡ x → Narrow W (W - used) (closing true W indent used)
    go true p = let l : used < W = ltb-true used W p in rw (closing, p) (quote_narrow W (W - used) (omega arith) (omega arith))
    go false p = rw (closing, p) (narrow_next W (W - used) indent (34 ∷ 10 ∷ []) (omega arith) (quote_narrow W (W - indent) (omega arith) (omega arith)))

-- a line that was filled, and what comes after it
filled_narrow : (W used : ℕ) (l rest : List ℕ) → Fine W used l → Narrow W (W - (used + length l)) rest → Narrow W (W - used) (l ++ rest)
unfolding Narrow
filled_narrow W used l rest f p y e = rw (append_assoc l rest y) (f (rest ++ y) (p y e))

after_narrow : (n : ℕ) (q : Bool) (W indent used : ℕ) (t : List ℕ) → indent < W → Narrow W (W - used) (lines_after n q W indent used t)
unfolding lines_after
after_narrow zero q W indent used t h = closing_narrow q W indent used h
after_narrow (suc n) q W indent used [] h = closing_narrow q W indent used h
after_narrow (suc n) q W indent used (b ∷ t) h =
    let x : Line = fill q W indent (b ∷ t) in
    let l : List ℕ = line_text x in
    let rest : List ℕ = lines_after n q W indent (indent + length l) (line_rest x) in
    rw (append_assoc (10 ∷ [] ++ spaces indent) l rest)
    (narrow_next W (W - used) indent (l ++ rest) (omega arith)
    (filled_narrow W indent l rest (fill_fine q W indent (b ∷ t)) (after_narrow n q W indent (indent + length l) (line_rest x) h)))

wrapped_narrow : (q : Bool) (W indent used : ℕ) (t : List ℕ) → indent < W → Narrow W (W - used) (wrapped q W indent used t)
unfolding wrapped
wrapped_narrow q W indent used t h =
    let x : Line = fill q W used t in
    filled_narrow W used (line_text x) (lines_after (length t) q W indent (used + length (line_text x)) (line_rest x)) (fill_fine q W used t)
    (after_narrow (length t) q W indent (used + length (line_text x)) (line_rest x) h)

-- text after what stands before it, which with an opening quote leaves it its columns
pub text_narrow : (W : ℕ) (start : List ℕ) (indent : ℕ) (q : Bool) (t : List ℕ) → indent < W → length start < W → Narrow W W (wrap_text W start indent q t)
unfolding wrap_text
text_narrow W start indent false t h g = narrow_start W start (wrapped false W indent (length start) t) (omega arith) (wrapped_narrow false W indent (length start) t h)
text_narrow W start indent true t h g =
    let l : length (start ++ 34 ∷ []) ≡ suc (length start) = simp length-append (omega arith) in
    narrow_start W (start ++ 34 ∷ []) (wrapped true W indent (suc (length start)) t) (omega arith) (rw l (wrapped_narrow true W indent (suc (length start)) t h))

-- ---- broken at commas

comma_narrow : (n W indent used : ℕ) (t : List ℕ) → indent < W → used < W → length t ≤ n → Narrow W (W - used) (comma_lines n W indent used t)
unfolding comma_lines
comma_narrow zero W indent used [] h g k = narrow_end W (W - used)
comma_narrow zero W indent used (b ∷ t) h g k = absurd (not-suc-le-zero k)
comma_narrow (suc n) W indent used t h g k = go (λ s m. comma_narrow n W indent indent s h h m) (leb (used + length t) W) refl
  where
    go :
        ((s : List ℕ) → length s ≤ n → Narrow W (W - indent) (comma_lines n W indent indent s)) → (x : Bool) → leb (used + length t) W ≡ x →
        Narrow W (W - used) (comma_lines (suc n) W indent used t)
    go ih true p =
        let m : used + length t ≤ W = leb-true (used + length t) W p in
        rw (comma_lines, p) (narrow_bytes W (W - used) t (10 ∷ []) (omega arith) (omega arith) (narrow_end W (W - used - length t)))
    go ih false p =
        let m : W < used + length t = leb-false (used + length t) W p in
        let i : ℕ = break_at (W - used) t in
        let b = break_at_lem (W - used) t (omega arith) (omega arith) in
        let l : length (take i t) ≤ i = rw (length-take i t) (min-le_left i (length t)) in
        let d : length (drop i t) ≤ n = rw (length-drop i t) (omega arith) in
        rw (comma_lines, p)
        (narrow_broken W (W - used) indent (take i t) (comma_lines n W indent indent (drop i t)) (omega arith) (omega arith) (omega arith) (ih (drop i t) d))

pub location_narrow : (W : ℕ) (start : List ℕ) (indent : ℕ) (t : List ℕ) → indent < W → length start < W → Narrow W W (wrap_location W start indent t)
unfolding wrap_location
location_narrow W start indent t h g =
    narrow_start W start (comma_lines (length t) W indent (length start) t) (omega arith) (comma_narrow (length t) W indent (length start) t h g (omega arith))
