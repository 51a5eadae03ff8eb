-- The text so far, byte by byte and line by line, and that it is the text that a feature's location or CONTIG is read as.
use Rattle.std.specs.Prelude.{ℕ, zero, suc, ◌+◌, ◌-◌, ◌<◌, Bool, true, ◌≡◌, length, drop, take, eqb}
use Rattle.std.proofs.Math.Bool.{false}
use Rattle.std.proofs.Math.Path.{refl, ap}
use Rattle.std.proofs.Common.{◌∙◌, sym, arith, eqb-true, eq-eqb, length-append, take_at}
use mathlib.Core.List.{List, [], ◌∷◌, ◌++◌, append_assoc}
use Rattle.std.proofs.Math.Seq.{drop-append_seam}
use Rattle.spec_format.specs.Bytes.{starts, all, spaces, concat, each}
use Rattle.spec_format.specs.Readers.{Ans, got, no, cut, mapped, tag, line_feed, line, line_end, more, members, end, fit_turn}
use Rattle.spec_format.specs.Header.{further_line, field_text, line_after}
use Rattle.spec_format.specs.Features.{not_slash, bare_turn, bare_more, bare}
use Rattle.spec_format.specs.Location.{run, past}
use Rattle.spec_format.specs.Deep.{in_line, further_start, line_on, so_far}
use Rattle.spec_format.specs.Impossible.{impossible}
use Rattle.spec_loops.specs.Loops.{Shrinks, members_no, members_cut, members_stop, end_no, end_cut, fit_members_stop, fit_end_stop, fit_end_cut}
use Rattle.spec_loops.proofs.Loops.{members_more, end_more, fit_members_more, fit_end_more}
use Rattle.spec_loops.specs.Shrinks.{Past, past_here, Leaves, leaves_got, leaves_no, leaves_pick, leaves_first, leaves_length}
use Rattle.spec_loops.proofs.Shrinks.{tag_loose, end_takes, bare_more_small, further_small}
use Rattle.spec_location.specs.Bytes.{run_past}
use Rattle.spec_location.specs.Tests.{all_head, all_tail}

-- ---- a turn of the loop over lines takes the line end at least

past_leaves : (p : ℕ → Bool) (s : List ℕ) → Past 0 s (past p s)
past_leaves p s =
    let e : s ≡ run p s ++ past p s = run_past p s in
    record {
      gone = length (run p s);
      least = omega arith;
      within = omega (arith, length-append (run p s) (past p s), ap length e);
      is = sym (drop-append_seam (run p s) (past p s)) ∙ ap (drop (length (run p s))) (sym e);
    }

slash_leaves : (s : List ℕ) → Leaves 0 s (not_slash s)
slash_leaves [] = leaves_no 0 []
slash_leaves (b ∷ s) = leaves_pick (eqb b 47) (leaves_no 0 (b ∷ s)) (leaves_got 0 (b ∷ s) tt (b ∷ s) (past_here (b ∷ s)))

start_leaves : (contig : Bool) (indent : ℕ) (s : List ℕ) → Leaves 0 s (further_start contig indent s)
start_leaves contig indent s = leaves_first (tag_loose (spaces indent) s) (λ _ r. leaves_pick contig (leaves_got 0 r tt r (past_here r)) (slash_leaves r))

line_on_small : (contig : Bool) (indent : ℕ) → Shrinks (line_on contig indent)
line_on_small contig indent s a r e = omega (arith, leaves_length leaves (more a) r e)
  where
    leaves : Leaves 1 s (line_on contig indent s)
    leaves =
        leaves_first (end_takes s) (λ _ z. leaves_first (start_leaves contig indent z) (λ _ z. leaves_got 0 z _ (past in_line z) (past_leaves in_line z)))

-- ---- one step: a byte, a line end and what follows it, or the end

module _ (contig : Bool) (indent : ℕ) where
  pub so_far_nil : so_far contig indent [] ≡ []
  unfolding so_far run past line_end
  so_far_nil = rw (members_cut (line_on contig indent) [] refl)

  -- neither CR nor LF
  pub so_far_byte : (b : ℕ) (s : List ℕ) → in_line b ≡ true → so_far contig indent (b ∷ s) ≡ b ∷ so_far contig indent s
  unfolding so_far run past
  so_far_byte b s h = rw (run, past, h)

  -- at CR or LF, or where nothing is left
  module _ (s : List ℕ) (at : starts in_line s ≡ false) where
    so_far_at : so_far contig indent s ≡ concat (members (line_on contig indent) s)
    unfolding so_far run past
    so_far_at = go s at
      where
        go : (s : List ℕ) → starts in_line s ≡ false → run in_line s ++ concat (members (line_on contig indent) (past in_line s)) ≡ concat (members (line_on contig indent) s)
        go [] h = refl
        go (b ∷ s) h = rw (run, past, h)

    so_far_stop : line_on contig indent s ≡ no → so_far contig indent s ≡ []
    so_far_stop e = so_far_at ∙ ap concat (members_no (line_on contig indent) s e)

    so_far_cut : line_on contig indent s ≡ cut → so_far contig indent s ≡ []
    so_far_cut e = so_far_at ∙ ap concat (members_cut (line_on contig indent) s e)

    -- a stray CR
    pub so_far_stray : line_end s ≡ no → so_far contig indent s ≡ []
    so_far_stray e = so_far_stop (rw e)

-- a line end stands at CR or LF, and what is cut is one, or nothing
end_got_at : (s x y : List ℕ) → line_end s ≡ got x y → starts in_line s ≡ false
unfolding line_end
end_got_at [] x y e = refl
end_got_at (b ∷ s) x y e = go (eqb b 10) refl (eqb b 13) refl
  where
    go : (p : Bool) → eqb b 10 ≡ p → (q : Bool) → eqb b 13 ≡ q → in_line b ≡ false
    go true f true g = cc
    go true f false g = cc
    go false f true g = cc
    go false f false g = impossible cc

end_cut_at : (s : List ℕ) → line_end s ≡ cut → starts in_line s ≡ false
unfolding line_end
end_cut_at [] e = refl
end_cut_at (b ∷ s) e = go (eqb b 10) refl (eqb b 13) refl
  where
    go : (p : Bool) → eqb b 10 ≡ p → (q : Bool) → eqb b 13 ≡ q → in_line b ≡ false
    go true f q g = impossible cc
    go false f true g = cc
    go false f false g = impossible cc

module _ (contig : Bool) (indent : ℕ) (s : List ℕ) where
  -- the slice ends here, or at a CR
  pub so_far_ends : line_end s ≡ cut → so_far contig indent s ≡ []
  so_far_ends e = so_far_cut contig indent s (end_cut_at s e) (rw e)

  module _ (x y : List ℕ) (e : line_end s ≡ got x y) where
    -- a further line
    pub so_far_on : (u : Unit) (z : List ℕ) → further_start contig indent y ≡ got u z → so_far contig indent s ≡ so_far contig indent z
    unfolding so_far
    so_far_on u z f =
        let g : line_on contig indent s ≡ got (more (run in_line z)) (past in_line z) = rw e (rw f) in
        so_far_at contig indent s (end_got_at s x y e) ∙
        ap concat (members_more (line_on contig indent) (line_on_small contig indent) s (run in_line z) (past in_line z) g)

    -- a line that is none of it, or one of which the indent is cut
    pub so_far_other : further_start contig indent y ≡ no → so_far contig indent s ≡ []
    so_far_other f = so_far_stop contig indent s (end_got_at s x y e) (rw e (rw f))

    pub so_far_short : further_start contig indent y ≡ cut → so_far contig indent s ≡ []
    so_far_short f = so_far_cut contig indent s (end_got_at s x y e) (rw e (rw f))

-- ---- lines

-- a line end, whatever follows
abbrev Ends : List ℕ → Type 0
Ends ending = (w : List ℕ) → line_end (ending ++ w) ≡ got [] w

-- z is the line l, its end, and y
record Line (z l y : List ℕ) : Type 0 where
  ending : List ℕ
  is : z ≡ l ++ (ending ++ y)
  within : all in_line l ≡ true
  ends : Ends ending

feed_is : (s l y : List ℕ) → line_feed s ≡ got l y → (l ≡ []) × (s ≡ 10 ∷ y)
feed_is [] l y e = impossible cc
feed_is (b ∷ s) l y e = go (eqb b 10) refl
  where
    go : (x : Bool) → eqb b 10 ≡ x → (l ≡ []) × (b ∷ s ≡ 10 ∷ y)
    go true f = (cc, cc (eqb-true b 10 f))
    go false f = impossible cc

line_is : (z l y : List ℕ) → line z ≡ got l y → Line z l y
unfolding line line_end
line_is [] l y e = impossible cc
line_is (b ∷ z) l y e = go (λ m. line_is z m y) (eqb b 10) refl (eqb b 13) refl (line z) refl
  where
    go :
        ((m : List ℕ) → line z ≡ got m y → Line z m y) → (p : Bool) → eqb b 10 ≡ p → (q : Bool) → eqb b 13 ≡ q → (o : Ans (List ℕ)) → line z ≡ o →
        Line (b ∷ z) l y
    go ih true f q g o h =
        let x : l ≡ [] = cc in
        let v : b ≡ 10 = eqb-true b 10 f in rw x (record { ending = 10 ∷ []; is = cc; within = refl; ends = λ w. refl })
    go ih false f true g o h =
        let x = feed_is z l y (cc) in
        let u : l ≡ [] = x.0 in
        let v : z ≡ 10 ∷ y = x.1 in
        let w : b ≡ 13 = eqb-true b 13 g in rw u (record { ending = 13 ∷ 10 ∷ []; is = cc; within = refl; ends = λ w. refl })
    go ih false f false g (got m w) h =
        let x : l ≡ b ∷ m = cc in
        let k : Line z m y = ih m (cc) in
        rw x (record { ending = k.ending; is = ap (λ (v : List ℕ). b ∷ v) k.is; within = cc k.within; ends = k.ends })
    go ih false f false g no h = impossible cc
    go ih false f false g cut h = impossible cc

so_far_line : (contig : Bool) (indent : ℕ) (l w : List ℕ) → all in_line l ≡ true → so_far contig indent (l ++ w) ≡ l ++ so_far contig indent w
so_far_line contig indent [] w h = refl
so_far_line contig indent (b ∷ l) w h =
    so_far_byte contig indent b (l ++ w) (all_head in_line b l h) ∙ ap (λ (v : List ℕ). b ∷ v) (so_far_line contig indent l w (all_tail in_line b l h))

-- ---- a feature's location

module _ (indent : ℕ) where
  bare_lines :
      (n : ℕ) (u : Unit) (r y ending : List ℕ) → length y < n → Ends ending → end (bare_more indent) y ≡ got u r →
      so_far false indent (ending ++ y) ≡ concat (members (bare_more indent) y)
  bare_lines zero u r y ending l h e = absurd (omega arith)
  bare_lines (suc n) u r y ending l h e = go (bare_lines n u r) (further_start false indent y) refl
    where
      go :
          ((y ending : List ℕ) → length y < n → Ends ending → end (bare_more indent) y ≡ got u r → so_far false indent (ending ++ y) ≡ concat (members (bare_more indent) y)) →
          (o : Ans Unit) → further_start false indent y ≡ o → so_far false indent (ending ++ y) ≡ concat (members (bare_more indent) y)
      go ih (got v₀ z) f = inner (line z) refl
        where
          inner : (o : Ans (List ℕ)) → line z ≡ o → so_far false indent (ending ++ y) ≡ concat (members (bare_more indent) y)
          inner (got m v) g =
              let t : bare_more indent y ≡ got (more m) v = ap (bare_turn y) f ∙ ap (mapped more) g in
              let k : Line z m v = line_is z m v g in
              let s : length v < length y = bare_more_small indent y m v t in
              so_far_on false indent (ending ++ y) [] y (h y) v₀ z f ∙ ap (so_far false indent) k.is ∙ so_far_line false indent m (k.ending ++ v) k.within ∙
              ap (λ (w : List ℕ). m ++ w) (ih v k.ending (omega arith) k.ends (sym (end_more (bare_more indent) (bare_more_small indent) y m v t) ∙ e)) ∙
              sym (ap concat (members_more (bare_more indent) (bare_more_small indent) y m v t))
          inner no g = impossible (cc (end_no (bare_more indent) y (ap (bare_turn y) f ∙ ap (mapped more) g)))
          inner cut g = impossible (cc (end_cut (bare_more indent) y (ap (bare_turn y) f ∙ ap (mapped more) g)))
      go ih no f = so_far_other false indent (ending ++ y) [] y (h y) f ∙ sym (ap concat (members_stop (bare_more indent) y y (ap (bare_turn y) f)))
      go ih cut f = impossible (cc (end_cut (bare_more indent) y (ap (bare_turn y) f)))

  pub so_far_bare : (s t r : List ℕ) → bare indent s ≡ got t r → so_far false indent s ≡ t
  unfolding bare
  so_far_bare s t r h = go (line s) refl
    where
      go : (o : Ans (List ℕ)) → line s ≡ o → so_far false indent s ≡ t
      go (got first y) f = inner (end (bare_more indent) y) refl
        where
          k : Line s first y
          k = line_is s first y f

          inner : (o : Ans Unit) → end (bare_more indent) y ≡ o → so_far false indent s ≡ t
          inner (got u z) g =
              let e : got (first ++ concat (members (bare_more indent) y)) z ≡ got t r = rw g at (rw f at h) in
              ap (so_far false indent) k.is ∙ so_far_line false indent first (k.ending ++ y) k.within ∙
              ap (λ (w : List ℕ). first ++ w) (bare_lines (suc (length y)) u z y k.ending (omega arith) k.ends g) ∙ (cc)
          inner no g = impossible (cc (rw g at (rw f at h)))
          inner cut g = impossible (cc (rw g at (rw f at h)))
      go no f = impossible (cc (rw f at h))
      go cut f = impossible (cc (rw f at h))

-- ---- CONTIG's

tag_is : (w s : List ℕ) (u : Unit) (r : List ℕ) → tag w s ≡ got u r → s ≡ w ++ r
unfolding tag
tag_is [] s u r e = cc
tag_is (c ∷ w) [] u r e = impossible cc
tag_is (c ∷ w) (b ∷ s) u r e = go (tag_is w s u r) (eqb b c) refl
  where
    go : (tag w s ≡ got u r → s ≡ w ++ r) → (x : Bool) → eqb b c ≡ x → b ∷ s ≡ (c ∷ w) ++ r
    go ih true f = cc (eqb-true b c f, ih (cc))
    go ih false f = impossible cc

tag_here : (w r : List ℕ) → tag w (w ++ r) ≡ got tt r
unfolding tag
tag_here [] r = refl
tag_here (c ∷ w) r = rw (tag, eq-eqb c c refl) (tag_here w r)

-- further lines up to r: the text so far of what stands before r, and of all where r begins no further line
record Lines (n : ℕ) (y r : List ℕ) : Type 0 where
  front : List ℕ
  is : y ≡ front ++ r
  told : (ending : List ℕ) → Ends ending → so_far true n (ending ++ front) ≡ concat (members (fit_turn (further_line n)) y)
  whole : tag (spaces n) r ≡ no → (ending : List ℕ) → Ends ending → so_far true n (ending ++ y) ≡ concat (members (fit_turn (further_line n)) y)

-- where the slice ends after a line
so_far_last : (n : ℕ) (ending : List ℕ) → Ends ending → so_far true n (ending ++ []) ≡ []
unfolding tag
so_far_last zero ending h = so_far_on true 0 (ending ++ []) [] [] (h []) tt [] refl ∙ so_far_nil true 0
so_far_last (suc n) ending h = so_far_short true (suc n) (ending ++ []) [] [] (h []) refl

module _ (n : ℕ) where
  -- none here: the text ended
  lines_none : (u : Unit) (r y : List ℕ) → further_line n y ≡ no → end (fit_turn (further_line n)) y ≡ got u r → Lines n y r
  lines_none u r y f e =
      let g : y ≡ r = cc (fit_end_stop (further_line n) y f) in
      let m : concat (members (fit_turn (further_line n)) y) ≡ [] = ap concat (fit_members_stop (further_line n) y f) in
      record {
        front = [];
        is = g;
        told = λ ending h. so_far_last n ending h ∙ sym m;
        whole = λ q ending h. so_far_other true n (ending ++ y) [] y (h y) (rw (rw (← g) at q)) ∙ sym m;
      }

  regroup : (a b c d r : List ℕ) → (a ++ (b ++ (c ++ d))) ++ r ≡ a ++ (b ++ (c ++ (d ++ r)))
  regroup a b c d r = simp append_assoc

  lines_more : (r y z l w : List ℕ) (u : Unit) → tag (spaces n) y ≡ got u z → line z ≡ got l w → Lines n w r → Lines n y r
  lines_more r y z l w u f g L =
      record {
        front = spaces n ++ (l ++ (k.ending ++ L.front));
        is =
            tag_is (spaces n) y u z f ∙ ap (λ (v : List ℕ). spaces n ++ v) (k.is ∙ ap (λ (v : List ℕ). l ++ (k.ending ++ v)) L.is) ∙
            sym (regroup (spaces n) l k.ending L.front r);
        told = λ ending h.
            let x : List ℕ = l ++ (k.ending ++ L.front) in
            so_far_on true n (ending ++ (spaces n ++ x)) [] (spaces n ++ x) (h (spaces n ++ x)) tt x (rw (tag_here (spaces n) x)) ∙
            so_far_line true n l (k.ending ++ L.front) k.within ∙ ap (λ (v : List ℕ). l ++ v) (L.told k.ending k.ends) ∙ m;
        whole = λ q ending h.
            so_far_on true n (ending ++ y) [] y (h y) tt z (rw f) ∙ ap (so_far true n) k.is ∙ so_far_line true n l (k.ending ++ w) k.within ∙
            ap (λ (v : List ℕ). l ++ v) (L.whole q k.ending k.ends) ∙ m;
      }
    where
      k : Line z l w
      k = line_is z l w g

      m : l ++ concat (members (fit_turn (further_line n)) w) ≡ concat (members (fit_turn (further_line n)) y)
      m = sym (ap concat (fit_members_more (further_line n) (further_small n) y l w (rw f g)))

  further_lines : (k : ℕ) (u : Unit) (r y : List ℕ) → length y < k → end (fit_turn (further_line n)) y ≡ got u r → Lines n y r
  further_lines zero u r y l e = absurd (omega arith)
  further_lines (suc k) u r y l e = go (further_lines k u r) (tag (spaces n) y) refl
    where
      go : ((y : List ℕ) → length y < k → end (fit_turn (further_line n)) y ≡ got u r → Lines n y r) → (o : Ans Unit) → tag (spaces n) y ≡ o → Lines n y r
      go ih (got v z) f = inner (line z) refl
        where
          inner : (o : Ans (List ℕ)) → line z ≡ o → Lines n y r
          inner (got m w) g =
              let t : further_line n y ≡ got m w = rw f g in
              let s : length w < length y = further_small n y m w t in
              lines_more r y z m w v f g (ih w (omega arith) (sym (fit_end_more (further_line n) (further_small n) y m w t) ∙ e))
          inner no g = lines_none u r y (rw f g) e
          inner cut g = impossible (cc (fit_end_cut (further_line n) y (rw f g)))
      go ih no f = lines_none u r y (rw f) e
      go ih cut f = impossible (cc (fit_end_cut (further_line n) y (rw f)))

  each_line : (l : List (List ℕ)) → each (line_after false) l ≡ concat l
  each_line [] = refl
  each_line (x ∷ l) = ap (λ (v : List ℕ). x ++ v) (each_line l)

  -- the same of the whole text t, which r follows
  record Text (s t r : List ℕ) : Type 0 where
    front : List ℕ
    is : s ≡ front ++ r
    told : so_far true n front ≡ t
    whole : tag (spaces n) r ≡ no → so_far true n s ≡ t

  text_is : (s t r : List ℕ) → field_text n false s ≡ got t r → Text s t r
  unfolding field_text
  text_is s t r h = go (line s) refl
    where
      go : (o : Ans (List ℕ)) → line s ≡ o → Text s t r
      go (got first y) f = inner (end (fit_turn (further_line n)) y) refl
        where
          k : Line s first y
          k = line_is s first y f

          inner : (o : Ans Unit) → end (fit_turn (further_line n)) y ≡ o → Text s t r
          inner (got u z) g =
              let e : got (first ++ each (line_after false) (members (fit_turn (further_line n)) y)) z ≡ got t r = rw g at (rw f at h) in
              let m : first ++ concat (members (fit_turn (further_line n)) y) ≡ t = cc (each_line (members (fit_turn (further_line n)) y)) in
              let q : z ≡ r = cc in
              let L : Lines n y r = rw q at (further_lines (suc (length y)) u z y (omega arith) g) in
              record {
                front = first ++ (k.ending ++ L.front);
                is = k.is ∙ ap (λ (v : List ℕ). first ++ (k.ending ++ v)) L.is ∙ sym (simp append_assoc);
                told = so_far_line true n first (k.ending ++ L.front) k.within ∙ ap (λ (v : List ℕ). first ++ v) (L.told k.ending k.ends) ∙ m;
                whole = λ p.
                    ap (so_far true n) k.is ∙ so_far_line true n first (k.ending ++ y) k.within ∙
                    ap (λ (v : List ℕ). first ++ v) (L.whole p k.ending k.ends) ∙ m;
              }
          inner no g = impossible (cc (rw g at (rw f at h)))
          inner cut g = impossible (cc (rw g at (rw f at h)))
      go no f = impossible (cc (rw f at h))
      go cut f = impossible (cc (rw f at h))

  -- CONTIG's text is the text so far of what it was read from; a line with a stray CR, which ends it, may follow
  pub so_far_front : (s t r : List ℕ) → field_text n false s ≡ got t r → so_far true n (take (length s - length r) s) ≡ t
  so_far_front s t r h =
      let x : Text s t r = text_is s t r h in
      let l : length s ≡ length x.front + length r = ap length x.is ∙ length-append x.front r in
      let e : take (length s - length r) s ≡ x.front = ap (take (length s - length r)) x.is ∙ take_at x.front r (length s - length r) (omega arith) in
      rw e x.told

  -- where no further line begins after it, the text so far ends with it
  pub so_far_text : (s t r : List ℕ) → field_text n false s ≡ got t r → tag (spaces n) r ≡ no → so_far true n s ≡ t
  so_far_text s t r h p = (text_is s t r h).whole p
