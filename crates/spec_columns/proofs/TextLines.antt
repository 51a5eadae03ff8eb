-- Wrapped texts, in quotes or not: the lines are the text's own but for one space or LF that a break may leave out.
use Rattle.std.specs.Prelude.{ℕ, zero, suc, ◌+◌, ◌≤◌, ◌<◌, Bool, true, false, ◌&&◌, ◌||◌, not, ◌≡◌, refl, List, [], ◌∷◌, ◌++◌, length, eqb, ltb}
use Rattle.std.proofs.Common.{not-suc-le-zero, arith, ap, append_assoc, length-append, eqb-true, lt-ltb}
use Rattle.spec_format.specs.Bytes.{spaces}
use Rattle.spec_format.specs.Wrap.{Line, line_fits, line_over, line_text, line_rest, put, put_space, inner, fill, closing, lines_after, wrapped}
use Rattle.spec_public.specs.Public.{doubled, presented_lines}
use Rattle.spec_columns.specs.Tests.{both, and_left, and_right}
use Rattle.spec_columns.specs.Lines.{text_lines}
use Rattle.spec_columns.specs.TextLines.{Split, Presents, quoted_by, lines_by, Presentation, next, space, feed, last, own, more}

-- ---- a line

split_push : (b : ℕ) (v l r : List ℕ) → eqb b 10 ≡ false → Split v l r → Split (b ∷ v) (b ∷ l) r
split_push b v l r p (next o e) = next (both _ _ (ap not p) o) (cc)
split_push b v l r p (space o e) = space (both _ _ (ap not p) o) (cc)
split_push b v l r p (feed o e) = feed (both _ _ (ap not p) o) (cc)

-- a line of a text, as it is written, and the text after it
record Filled (q : Bool) (v line rest : List ℕ) : Type 0 where
  raw : List ℕ
  is : line ≡ quoted_by q raw
  split : Split v raw rest

nothing : (q : Bool) → [] ≡ quoted_by q []
unfolding doubled
nothing true = refl
nothing false = refl

filled_none : (q : Bool) (v : List ℕ) → Filled q v [] v
filled_none q v = record { raw = []; is = nothing q; split = next refl refl }

filled_space : (q : Bool) (t : List ℕ) → Filled q (32 ∷ t) [] t
filled_space q t = record { raw = []; is = nothing q; split = space refl refl }

filled_feed : (q : Bool) (t : List ℕ) → Filled q (10 ∷ t) [] t
filled_feed q t = record { raw = []; is = nothing q; split = feed refl refl }

filled_quote : (v line rest : List ℕ) → Filled true v line rest → Filled true (34 ∷ v) (34 ∷ 34 ∷ line) rest
unfolding doubled
filled_quote v line rest f = record { raw = 34 ∷ f.raw; is = cc f.is; split = split_push 34 v f.raw rest refl f.split }

-- a byte that is put as it is
one_more : (q : Bool) (b : ℕ) (line raw : List ℕ) → (q && eqb b 34) ≡ false → line ≡ quoted_by q raw → b ∷ line ≡ quoted_by q (b ∷ raw)
unfolding doubled
one_more true b line raw p e = cc
one_more false b line raw p e = cc

filled_byte : (q : Bool) (b : ℕ) (v line rest : List ℕ) → (q && eqb b 34) ≡ false → eqb b 10 ≡ false → Filled q v line rest → Filled q (b ∷ v) (b ∷ line) rest
filled_byte q b v line rest p n f =
    record { raw = b ∷ f.raw; is = one_more q b line f.raw p f.is; split = split_push b v f.raw rest n f.split }

abbrev FilledBy : Bool → List ℕ → Line → Type 0
FilledBy q v x = Filled q v (line_text x) (line_rest x)

by_quote : (q : Bool) (v : List ℕ) (x : Line) → q ≡ true → FilledBy q v x → FilledBy q (34 ∷ v) (put 34 (put 34 x))
by_quote true v (line_fits l r) e f = filled_quote v l r f
by_quote true v (line_over l r) e f = filled_quote v l r f
by_quote false v x e f = let z : ◌≡◌ {A = ℕ} 0 1 = cc in absurd (omega arith)

by_byte : (q : Bool) (b : ℕ) (v : List ℕ) (x : Line) → (q && eqb b 34) ≡ false → eqb b 10 ≡ false → FilledBy q v x → FilledBy q (b ∷ v) (put b x)
by_byte q b v (line_fits l r) e n f = filled_byte q b v l r e n f
by_byte q b v (line_over l r) e n f = filled_byte q b v l r e n f

by_space : (q : Bool) (v : List ℕ) (x : Line) → (q && eqb 32 34) ≡ false → FilledBy q v x → FilledBy q (32 ∷ v) (put_space v x)
by_space q v (line_fits l r) e f = filled_byte q 32 v l r e refl f
by_space q v (line_over l r) e f = filled_space q v

fill_filled : (q : Bool) (W used : ℕ) (t : List ℕ) → FilledBy q t (fill q W used t)
unfolding fill
fill_filled q W used [] = filled_none q []
fill_filled q W used (b ∷ t) =
    go (λ n. fill_filled q W n t) (q && eqb b 34) refl (eqb b 10) refl (eqb b 32) refl (ltb (suc used) W) refl (ltb used W) refl (ltb used W || inner b) refl
  where
    go :
        ((n : ℕ) → FilledBy q t (fill q W n t)) → (d : Bool) → (q && eqb b 34) ≡ d → (f : Bool) → eqb b 10 ≡ f → (s : Bool) → eqb b 32 ≡ s → (x : Bool) →
        ltb (suc used) W ≡ x → (y : Bool) → ltb used W ≡ y → (z : Bool) → (ltb used W || inner b) ≡ z → FilledBy q (b ∷ t) (fill q W used (b ∷ t))
    go ih true p f pf s ps true px y py z pz =
        rw (fill, p, px)
        (rw (eqb-true b 34 (and_right q (eqb b 34) p)) (by_quote q t (fill q W (suc (suc used)) t) (and_left q (eqb b 34) p) (ih (suc (suc used)))))
    go ih true p f pf s ps false px y py z pz = rw (fill, p, px) (filled_none q (b ∷ t))
    go ih false p true pf s ps x px y py z pz = rw (fill, p, pf) (rw (eqb-true b 10 pf) (filled_feed q t))
    go ih false p false pf true ps x px true py z pz =
        rw (fill, p, pf, ps, py)
        (rw (eqb-true b 32 ps) (by_space q t (fill q W (suc used) t) (rw (eqb-true b 32 ps) at p) (ih (suc used))))
    go ih false p false pf true ps x px false py z pz = rw (fill, p, pf, ps, py) (rw (eqb-true b 32 ps) (filled_space q t))
    go ih false p false pf false ps x px y py true pz = rw (fill, p, pf, ps, pz) (by_byte q b t (fill q W (suc used) t) p pf (ih (suc used)))
    go ih false p false pf false ps x px y py false pz = rw (fill, p, pf, ps, pz) (filled_none q (b ∷ t))

split_length : (v l r : List ℕ) → Split v l r → length r ≤ length v
split_length v l r (next o e) = rw e (omega (arith, length-append l r))
split_length v l r (space o e) = rw e (omega (arith, length-append l (32 ∷ r)))
split_length v l r (feed o e) = rw e (omega (arith, length-append l (10 ∷ r)))

pub rest_length : (q : Bool) (W used : ℕ) (t : List ℕ) → length (line_rest (fill q W used t)) ≤ length t
rest_length q W used t = let f = fill_filled q W used t in split_length t f.raw (line_rest (fill q W used t)) f.split

-- ---- a line after the first takes a byte at least

put_rest : (b : ℕ) (x : Line) → line_rest (put b x) ≡ line_rest x
put_rest b (line_fits l r) = refl
put_rest b (line_over l r) = refl

space_rest : (t : List ℕ) (x : Line) → length (line_rest x) ≤ length t → length (line_rest (put_space t x)) ≤ length t
space_rest t (line_fits l r) h = h
space_rest t (line_over l r) h = omega arith

pub fill_takes : (q : Bool) (W used b : ℕ) (t : List ℕ) → suc used < W → length (line_rest (fill q W used (b ∷ t))) ≤ length t
unfolding fill
fill_takes q W used b t h = go (q && eqb b 34) refl (eqb b 10) refl (eqb b 32) refl
  where
    go : (d : Bool) → (q && eqb b 34) ≡ d → (f : Bool) → eqb b 10 ≡ f → (s : Bool) → eqb b 32 ≡ s → length (line_rest (fill q W used (b ∷ t))) ≤ length t
    go true p f pf s ps =
        rw (fill, p, lt-ltb (suc used) W h, put_rest 34 (put 34 (fill q W (suc (suc used)) t)), put_rest 34 (fill q W (suc (suc used)) t))
        (rest_length q W (suc (suc used)) t)
    go false p true pf s ps = rw (fill, p, pf) (omega arith)
    go false p false pf true ps =
        rw (fill, p, pf, ps, lt-ltb used W (omega arith)) (space_rest t (fill q W (suc used) t) (rest_length q W (suc used) t))
    go false p false pf false ps = rw (fill, p, pf, ps, lt-ltb used W (omega arith), put_rest b (fill q W (suc used) t)) (rest_length q W (suc used) t)

-- ---- the lines

-- the last line, and the closing
closed : (q : Bool) (W indent used : ℕ) (v line : List ℕ) → Filled q v line [] → Presentation q indent v (line ++ closing q W indent used)
unfolding closing presented_lines text_lines doubled
closed false W indent used v line f = record { line = f.raw; lines = []; is = rw f.is; presents = last false v f.raw f.split }
closed true W indent used v line f = go (ltb used W) refl
  where
    go : (x : Bool) → ltb used W ≡ x → Presentation true indent v (line ++ closing true W indent used)
    go true p = record { line = f.raw; lines = []; is = rw (closing, p, f.is); presents = last true v f.raw f.split }
    go false p = record { line = f.raw; lines = [] ∷ []; is = rw (closing, p, f.is) (simp append_assoc); presents = own v f.raw f.split }

-- a line more before the others
another :
    (q : Bool) (indent : ℕ) (l m : List ℕ) (ms : List (List ℕ)) →
    quoted_by q l ++ (10 ∷ [] ++ spaces indent ++ lines_by q indent m ms) ≡ lines_by q indent l (m ∷ ms)
unfolding presented_lines text_lines
another true indent l m ms = simp append_assoc
another false indent l m ms = simp append_assoc

-- a line, and what the lines after it present
line_more_lem :
    (q : Bool) (indent : ℕ) (v line r text : List ℕ) → Filled q v line r → Presentation q indent r text →
    Presentation q indent v (line ++ (10 ∷ [] ++ spaces indent ++ text))
line_more_lem q indent v line r text f p =
    record {
      line = f.raw;
      lines = p.line ∷ p.lines;
      is = rw (f.is, p.is) (another q indent f.raw p.line p.lines);
      presents = more q v f.raw r p.line p.lines f.split p.presents;
    }

-- a line that was filled and all lines after it present the text
after :
    (n : ℕ) (q : Bool) (W indent used : ℕ) (v line rest : List ℕ) → suc indent < W → length rest ≤ n → Filled q v line rest →
    Presentation q indent v (line ++ lines_after n q W indent used rest)
unfolding lines_after
after zero q W indent used v line [] h g f = closed q W indent used v line f
after zero q W indent used v line (b ∷ t) h g f = absurd (not-suc-le-zero g)
after (suc n) q W indent used v line rest h g f = go (λ u w l r k. after n q W indent u w l r h k) rest g f
  where
    go :
        ((u : ℕ) (w l r : List ℕ) → length r ≤ n → Filled q w l r → Presentation q indent w (l ++ lines_after n q W indent u r)) → (rest : List ℕ) →
        length rest ≤ suc n → Filled q v line rest → Presentation q indent v (line ++ lines_after (suc n) q W indent used rest)
    go ih [] g f = closed q W indent used v line f
    go ih (b ∷ t) g f =
        let x : Line = fill q W indent (b ∷ t) in
        rw append_assoc
        (line_more_lem q indent v line (b ∷ t) (line_text x ++ lines_after n q W indent (indent + length (line_text x)) (line_rest x)) f
        (ih (indent + length (line_text x)) (b ∷ t) (line_text x) (line_rest x) (omega (arith, fill_takes q W indent b t h)) (fill_filled q W indent (b ∷ t))))

-- what is written of a text after the word or key that it belongs to presents it
pub wrapped_presents : (q : Bool) (W indent used : ℕ) (v : List ℕ) → suc indent < W → Presentation q indent v (wrapped q W indent used v)
unfolding wrapped
wrapped_presents q W indent used v h =
    let x : Line = fill q W used v in
    after (length v) q W indent (used + length (line_text x)) v (line_text x) (line_rest x) h (rest_length q W used v) (fill_filled q W used v)
