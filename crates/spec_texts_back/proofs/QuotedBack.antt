-- A quoted value: what the public document calls its presentations is read as the text that they present, and what is written is such a presentation.
use Prim.Native.Nat.{ℕ, zero, suc, ◌+◌, ◌<◌}
use Rattle.std.proofs.Common.{arith, ◌∙◌}
use Rattle.std.specs.Prelude.{Bool, ◌&&◌, not, ◌≡◌}
use Rattle.std.proofs.Math.Bool.{true, false}
use Rattle.std.proofs.Math.Path.{refl}
use mathlib.Core.List.{List, [], ◌∷◌, ◌++◌, append_assoc, append-nil}
use Rattle.std.proofs.Math.Dec.{eqb, ltb}
use borrow.Author.Tests.{eqb-true, ne_eqb, not-true}
use Rattle.spec_format.specs.Bytes.{pick, bytes, spaces, some, all, concat, visible, but}
use Rattle.spec_format.specs.Readers.{Ans, got, no, bind, mapped, tag, line_end, more, stop}
use Rattle.spec_format.specs.Features.{escape, escaped, special, quoted_turn, quoted}
use Rattle.spec_format.specs.Wrap.{wrapped}
use Rattle.spec_format.specs.Keeping.{lines_kept}
use Rattle.spec_public.specs.Public.{doubled, presented_lines, presented, broken_text}
use Rattle.spec_loops.proofs.Shrinks.{quoted_turn_small}
use Rattle.spec_texts_back.specs.Tests.{and_left, and_right, and_both, all_head, all_tail, all_and}
use Rattle.spec_texts_back.specs.Pieces.{tag_back, no_end}
use Rattle.spec_texts_back.specs.Joins.{joining, joining_more, joining_stop, joining_parts}
use Rattle.spec_texts_back.specs.BareBack.{ends}
use Rattle.spec_texts_back.specs.WrapKept.{laid}
use Rattle.spec_texts_back.proofs.WrapKept.{wrapped_kept}
use Rattle.spec_texts_back.specs.QuotedBack.{Presents, plain, wrapped_presents}

-- ---- one turn of the reader

-- an indent and a quote
abbrev quote_after : ℕ → List ℕ → Ans ℕ
quote_after n s = bind (tag (spaces n) s) λ _ r. mapped (λ _. 34) (tag (bytes "\"") r)

ends_quote : (n : ℕ) (s : List ℕ) → ends n s ≡ true → quote_after n s ≡ no
unfolding tag
ends_quote zero [] h = cc
ends_quote zero (b ∷ s) h =
    let e : b ≡ 47 = eqb-true b 47 h in
    let q : eqb b 34 ≡ false = ne_eqb b 34 (λ f. omega arith) in
    rw (tag, q)
ends_quote (suc n) [] h = cc
ends_quote (suc n) (b ∷ s) h = go (ends_quote n s) (eqb b 32) refl
  where
    go : (ends n s ≡ true → quote_after n s ≡ no) → (x : Bool) → eqb b 32 ≡ x → quote_after (suc n) (b ∷ s) ≡ no
    go ih true p = rw (tag, p) (ih (cc))
    go ih false p = rw (tag, p)

escaped_quote : (joined : Bool) → escaped joined 34 ≡ 34 ∷ []
escaped_quote true = refl
escaped_quote false = refl

escaped_feed : (joined : Bool) → escaped joined 10 ≡ pick joined [] (10 ∷ [])
escaped_feed true = refl
escaped_feed false = refl

-- neither quote nor CR nor LF
plain_byte : (b : ℕ) → no_end b ≡ true → eqb b 34 ≡ false → special b ≡ false
plain_byte b h q = cc (not-true (eqb b 10) (and_left (not (eqb b 10)) _ h), not-true (eqb b 13) (and_right (not (eqb b 10)) _ h))

module _ (joined : Bool) (indent : ℕ) where
  turn_byte : (b : ℕ) (s : List ℕ) → special b ≡ false → quoted_turn joined indent (b ∷ s) ≡ got (more (b ∷ [])) s
  unfolding quoted_turn
  turn_byte b s h = rw h

  turn_quote : (s : List ℕ) → quoted_turn joined indent (34 ∷ 34 ∷ s) ≡ got (more (34 ∷ [])) s
  unfolding quoted_turn escape tag
  turn_quote s = rw (escaped_quote joined)

  turn_line : (s : List ℕ) → quoted_turn joined indent (10 ∷ (spaces indent ++ s)) ≡ got (more (pick joined [] (10 ∷ []))) s
  unfolding quoted_turn escape tag line_end
  turn_line s = rw (tag_back (spaces indent) s, escaped_feed joined)

  turn_end : (s : List ℕ) → ends indent s ≡ true → quoted_turn joined indent (34 ∷ 10 ∷ s) ≡ got stop s
  unfolding quoted_turn escape tag line_end
  turn_end s h = rw (ends_quote indent s h)

  -- after the opening quote, t is read
  abbrev Reads : List ℕ → List ℕ → List ℕ → Type 0
  Reads s t r = joining (quoted_turn joined indent) s ≡ got t r

  reads_more : (s a z t r : List ℕ) → quoted_turn joined indent s ≡ got (more a) z → Reads z t r → Reads s (a ++ t) r
  reads_more s a z t r e h = joining_more (quoted_turn joined indent) (quoted_turn_small joined indent) s a z t r e h

  reads_doubled : (l x t r : List ℕ) → all no_end l ≡ true → Reads x t r → Reads (doubled l ++ x) (l ++ t) r
  unfolding doubled
  reads_doubled [] x t r h k = k
  reads_doubled (b ∷ l) x t r h k = go (reads_doubled l x t r (all_tail no_end b l h) k) (eqb b 34) refl
    where
      go : Reads (doubled l ++ x) (l ++ t) r → (y : Bool) → eqb b 34 ≡ y → Reads (doubled (b ∷ l) ++ x) (b ∷ (l ++ t)) r
      go ih true p =
          let e : b ≡ 34 = eqb-true b 34 p in
          rw e (reads_more (34 ∷ 34 ∷ (doubled l ++ x)) (34 ∷ []) (doubled l ++ x) (l ++ t) r (turn_quote (doubled l ++ x)) ih)
      go ih false p =
          rw (p, doubled)
          (reads_more (b ∷ (doubled l ++ x)) (b ∷ []) (doubled l ++ x) (l ++ t) r (turn_byte b (doubled l ++ x) (plain_byte b (all_head no_end b l h) p)) ih)

  reads_presented :
      (l : List ℕ) (ms : List (List ℕ)) (rest : List ℕ) → ends indent rest ≡ true → all no_end l ≡ true → all (all no_end) ms ≡ true →
      Reads (presented_lines indent l ms ++ rest) (broken_text joined l ms) rest
  unfolding presented_lines broken_text
  reads_presented l [] rest e h k =
      let z : Reads (34 ∷ 10 ∷ rest) [] rest = joining_stop (quoted_turn joined indent) (34 ∷ 10 ∷ rest) rest (turn_end rest e) in
      rw append_assoc (rw append-nil at (reads_doubled l (34 ∷ 10 ∷ rest) [] rest h z))
  reads_presented l (m ∷ ms) rest e h k =
      let x : List ℕ = presented_lines indent m ms ++ rest in
      let ih : Reads x (broken_text joined m ms) rest = reads_presented m ms rest e (all_head (all no_end) m ms k) (all_tail (all no_end) m ms k) in
      let f : Reads (10 ∷ (spaces indent ++ x)) (pick joined [] (10 ∷ []) ++ broken_text joined m ms) rest =
      reads_more (10 ∷ (spaces indent ++ x)) (pick joined [] (10 ∷ [])) x (broken_text joined m ms) rest (turn_line x) ih in
      let g = reads_doubled l (10 ∷ (spaces indent ++ x)) (pick joined [] (10 ∷ []) ++ broken_text joined m ms) rest h f in
      simp append_assoc g

-- EVERY PRESENTATION OF A QUOTED VALUE is read as the text that it presents
pub presented_back :
    (joined : Bool) (indent : ℕ) (l : List ℕ) (ms : List (List ℕ)) (rest : List ℕ) → ends indent rest ≡ true → all no_end l ≡ true →
    all (all no_end) ms ≡ true → quoted joined indent (presented indent l ms ++ rest) ≡ got (broken_text joined l ms) rest
unfolding quoted presented tag
presented_back joined indent l ms rest e h k =
    joining_parts (quoted_turn joined indent) [] (presented_lines indent l ms ++ rest) (broken_text joined l ms) rest concat (λ m. refl)
    (reads_presented joined indent l ms rest e h k)

-- ---- what is written is a presentation

presents_back :
    (joined : Bool) (indent : ℕ) (x t rest : List ℕ) → Presents joined indent x t → ends indent rest ≡ true →
    quoted joined indent ((34 ∷ x) ++ rest) ≡ got t rest
unfolding presented
presents_back joined indent x t rest p e =
    rw p.is (rw p.text at (presented_back joined indent p.first p.later rest e p.first_fine p.later_fine))

-- the text's own lines
first_of : List ℕ → List ℕ
first_of [] = []
first_of (b ∷ t) = elim (eqb b 10) [ true ↦ [] | false ↦ b ∷ first_of t ]

later_of : List ℕ → List (List ℕ)
later_of [] = []
later_of (b ∷ t) = elim (eqb b 10) [ true ↦ first_of t ∷ later_of t | false ↦ later_of t ]

own_text : (t : List ℕ) → broken_text false (first_of t) (later_of t) ≡ t
unfolding first_of later_of broken_text
own_text [] = refl
own_text (b ∷ t) = go (own_text t) (eqb b 10) refl (later_of t) refl
  where
    go : broken_text false (first_of t) (later_of t) ≡ t → (x : Bool) → eqb b 10 ≡ x → (ms : List (List ℕ)) → later_of t ≡ ms → broken_text false (first_of (b ∷ t)) (later_of (b ∷ t)) ≡ b ∷ t
    go ih true p ms e = cc (eqb-true b 10 p)
    go ih false p [] e = cc
    go ih false p (m ∷ ms) e = cc

own_first : (t : List ℕ) → all (but 13) t ≡ true → all no_end (first_of t) ≡ true
unfolding first_of
own_first [] h = refl
own_first (b ∷ t) h = go (own_first t (all_tail (but 13) b t h)) (eqb b 10) refl
  where
    go : all no_end (first_of t) ≡ true → (x : Bool) → eqb b 10 ≡ x → all no_end (first_of (b ∷ t)) ≡ true
    go ih true p = cc
    go ih false p = cc (all_head (but 13) b t h)

own_later : (t : List ℕ) → all (but 13) t ≡ true → all (all no_end) (later_of t) ≡ true
unfolding later_of
own_later [] h = refl
own_later (b ∷ t) h = go (own_first t (all_tail (but 13) b t h)) (own_later t (all_tail (but 13) b t h)) (eqb b 10) refl
  where
    go : all no_end (first_of t) ≡ true → all (all no_end) (later_of t) ≡ true → (x : Bool) → eqb b 10 ≡ x → all (all no_end) (later_of (b ∷ t)) ≡ true
    go f ih true p = cc
    go f ih false p = cc

own_laid : (indent : ℕ) (t : List ℕ) → laid true indent t ++ 34 ∷ 10 ∷ [] ≡ presented_lines indent (first_of t) (later_of t)
unfolding first_of later_of laid presented_lines doubled
own_laid indent [] = refl
own_laid indent (b ∷ t) = go (own_laid indent t) (eqb b 34) refl (eqb b 10) refl (later_of t) refl
  where
    go :
        laid true indent t ++ 34 ∷ 10 ∷ [] ≡ presented_lines indent (first_of t) (later_of t) → (x : Bool) → eqb b 34 ≡ x → (y : Bool) → eqb b 10 ≡ y →
        (ms : List (List ℕ)) → later_of t ≡ ms →
        laid true indent (b ∷ t) ++ 34 ∷ 10 ∷ [] ≡ presented_lines indent (first_of (b ∷ t)) (later_of (b ∷ t))
    go ih true p y q [] e = let f : b ≡ 34 = eqb-true b 34 p in rw f (cc)
    go ih true p y q (m ∷ ms) e = let f : b ≡ 34 = eqb-true b 34 p in rw f (cc)
    go ih false p true q ms e = cc (append_assoc (spaces indent) (laid true indent t) (34 ∷ 10 ∷ []))
    go ih false p false q [] e = cc
    go ih false p false q (m ∷ ms) e = cc

no_cr : (W indent used : ℕ) (t : List ℕ) → lines_kept true W indent used t ≡ true → all (but 13) t ≡ true
unfolding lines_kept
no_cr W indent used [] k = refl
no_cr W indent used (b ∷ t) k = go (λ l. no_cr W indent l t) (eqb b 34) refl (eqb b 10) refl (eqb b 13) refl
  where
    go :
        ((l : ℕ) → lines_kept true W indent l t ≡ true → all (but 13) t ≡ true) → (x : Bool) → eqb b 34 ≡ x → (y : Bool) → eqb b 10 ≡ y → (z : Bool) →
        eqb b 13 ≡ z → all (but 13) (b ∷ t) ≡ true
    go ih true p y q z r =
        let f : b ≡ 34 = eqb-true b 34 p in
        let n : eqb b 13 ≡ false = ne_eqb b 13 (λ g. omega arith) in
        cc (ih (suc (suc used)) (cc))
    go ih false p true q z r =
        let f : b ≡ 10 = eqb-true b 10 q in
        let n : eqb b 13 ≡ false = ne_eqb b 13 (λ g. omega arith) in
        let k' : (ltb used W && (some t && lines_kept true W indent indent t)) ≡ true = cc in
        cc (ih indent (and_right (some t) (lines_kept true W indent indent t) (and_right (ltb used W) _ k')))
    go ih false p false q true r = cc
    go ih false p false q false r = cc (ih (suc used) (cc))

kept_presents :
    (W indent used : ℕ) (t : List ℕ) → lines_kept true W indent used t ≡ true → Presents false indent (wrapped true W indent used t) t
kept_presents W indent used t k =
    let c : all (but 13) t ≡ true = no_cr W indent used t k in
    record {
      first = first_of t;
      later = later_of t;
      is = wrapped_kept true W indent used t k ∙ own_laid indent t;
      text = own_text t;
      first_fine = own_first t c;
      later_fine = own_later t c;
    }

-- A QUOTED VALUE THAT KEEPS THE RULES is read back, with its line breaks
pub quoted_back :
    (W indent used : ℕ) (t rest : List ℕ) → lines_kept true W indent used t ≡ true → ends indent rest ≡ true →
    quoted false indent ((34 ∷ wrapped true W indent used t) ++ rest) ≡ got t rest
quoted_back W indent used t rest k e = presents_back false indent (wrapped true W indent used t) t rest (kept_presents W indent used t k) e

-- ---- `translation`: any length, broken where lines are full, and joined by nothing

module _ (W : ℕ) where
  module _ (indent : ℕ) (w : indent < W) where
    -- A TRANSLATION is read back, its lines joined
    pub joined_back :
        (used : ℕ) (t rest : List ℕ) → all visible t ≡ true → all (but 34) t ≡ true → ends indent rest ≡ true →
        quoted true indent ((34 ∷ wrapped true W indent used t) ++ rest) ≡ got t rest
    joined_back used t rest v q e =
        presents_back true indent (wrapped true W indent used t) t rest
        (wrapped_presents W indent w used t (all_and visible (but 34) plain (λ b x y. and_both (visible b) (but 34 b) x y) t v q)) e
