-- ORIGIN AND A SPACE take one line of UTF-8, whatever stands on that line and whatever follows it (document 02, ticket 5).
use Rattle.std.specs.Prelude.{ℕ, Bool, true, false, ◌≡◌, refl, List, [], ◌∷◌, ◌++◌, eqb}
use Rattle.std.proofs.Common.{sym, ◌∙◌, eqb-true}
use Rattle.spec_format.specs.Bytes.{pick, some, bytes, not_blank, but}
use Rattle.spec_format.specs.Readers.{Ans, got, no, cut, bind, mapped, passing, or_else, push, tag, until, line_feed, line, line_end, utf8_of}
use Rattle.spec_format.specs.Utf8.{chars, utf8}
use Rattle.spec_format.specs.Origin.{origin_tag}

-- an answer whose text is of no interest: what is left
abbrev pub left : Ans (List ℕ) → Ans Unit
left o = mapped (λ _. tt) o

left_or : (a b : Ans (List ℕ)) → left (or_else a b) ≡ or_else (left a) (left b)
left_or (got t r) b = refl
left_or no b = refl
left_or cut b = refl

-- a byte more in front changes nothing of what is left
left_push : (b : ℕ) (o : Ans (List ℕ)) (f : List ℕ → Ans (List ℕ)) → left (bind (push b o) λ _ s. f s) ≡ left (bind o λ _ s. f s)
left_push b (got t r) f = refl
left_push b no f = refl
left_push b cut f = refl

some_push : (b : ℕ) (o : Ans (List ℕ)) → passing some (push b o) ≡ push b o
some_push b (got t r) = refl
some_push b no = refl
some_push b cut = refl

-- nor does an ASCII byte in front of a text that is tested
left_utf8 : (b : ℕ) (o : Ans (List ℕ)) → ((t : List ℕ) → utf8 (b ∷ t) ≡ utf8 t) → left (utf8_of (push b o)) ≡ left (utf8_of o)
left_utf8 b no h = refl
left_utf8 b cut h = refl
left_utf8 b (got t r) h = rw (h t) (go (utf8 t))
  where
    go : (x : Bool) → left (pick x (got (b ∷ t) r) no) ≡ left (pick x (got t r) no)
    go true = refl
    go false = refl

space_fine : (t : List ℕ) → utf8 (32 ∷ t) ≡ utf8 t
unfolding utf8 chars
space_fine t = refl

tab_fine : (t : List ℕ) → utf8 (9 ∷ t) ≡ utf8 t
unfolding utf8 chars
tab_fine t = refl

one_line : List ℕ → Ans Unit
one_line s = left (utf8_of (line s))

blanks : List ℕ → Ans (List ℕ)
blanks s = bind (until not_blank s) λ _ s. line_end s

after_space : (s : List ℕ) → one_line (32 ∷ s) ≡ one_line s
unfolding one_line line
after_space s = left_utf8 32 (line s) space_fine

after_tab : (s : List ℕ) → one_line (9 ∷ s) ≡ one_line s
unfolding one_line line
after_tab s = left_utf8 9 (line s) tab_fine

-- spaces and a line are that line
text_line : (s : List ℕ) → left (bind (until (but 32) s) λ _ s. utf8_of (line s)) ≡ one_line s
unfolding until one_line line
text_line [] = refl
text_line (b ∷ s) = go (text_line s) (eqb b 32) refl
  where
    go : left (bind (until (but 32) s) λ _ s. utf8_of (line s)) ≡ one_line s → (x : Bool) → eqb b 32 ≡ x →
        left (bind (until (but 32) (b ∷ s)) λ _ s. utf8_of (line s)) ≡ one_line (b ∷ s)
    go ih true e = rw (eqb-true b 32 e) (left_push 32 (until (but 32) s) (λ r. utf8_of (line r)) ∙ ih ∙ sym (after_space s))
    go ih false e = rw (until, e)

-- LF after a CR
feed_line : (s : List ℕ) → or_else (left (line_feed s)) (left (utf8_of (line_feed s))) ≡ left (utf8_of (line_feed s))
unfolding utf8 chars
feed_line [] = refl
feed_line (b ∷ s) = go (eqb b 10)
  where
    go : (x : Bool) → or_else (left (pick x (got [] s) no)) (left (utf8_of (pick x (got [] s) no))) ≡ left (utf8_of (pick x (got [] s) no))
    go true = refl
    go false = refl

-- blanks and a line end are such a line too
blank_line : (s : List ℕ) → or_else (left (blanks s)) (one_line s) ≡ one_line s
unfolding until blanks one_line line line_end utf8 chars
blank_line [] = refl
blank_line (b ∷ s) = go (blank_line s) (eqb b 32) refl (eqb b 9) refl (eqb b 10) refl (eqb b 13) refl
  where
    passed : left (blanks (b ∷ s)) ≡ left (blanks s) → one_line (b ∷ s) ≡ one_line s → or_else (left (blanks s)) (one_line s) ≡ one_line s →
        or_else (left (blanks (b ∷ s))) (one_line (b ∷ s)) ≡ one_line (b ∷ s)
    passed e f ih = rw (e, f) ih

    go : or_else (left (blanks s)) (one_line s) ≡ one_line s → (x : Bool) → eqb b 32 ≡ x → (y : Bool) → eqb b 9 ≡ y → (z : Bool) → eqb b 10 ≡ z → (u : Bool) → eqb b 13 ≡ u →
        or_else (left (blanks (b ∷ s))) (one_line (b ∷ s)) ≡ one_line (b ∷ s)
    go ih true e y f z g u h = passed (rw (eqb-true b 32 e) (left_push 32 (until not_blank s) line_end)) (rw (eqb-true b 32 e) (after_space s)) ih
    go ih false e true f z g u h = passed (rw (eqb-true b 9 f) (left_push 9 (until not_blank s) line_end)) (rw (eqb-true b 9 f) (after_tab s)) ih
    go ih false e false f true g u h = rw (until, e, f, line_end, line, g)
    go ih false e false f false g true h = rw (until, e, f, line_end, line, g, h) (feed_line s)
    go ih false e false f false g false h = rw (until, e, f, line_end, g, h)

-- THE LINE
pub origin_line : (s : List ℕ) → left (origin_tag (bytes "ORIGIN " ++ s)) ≡ left (utf8_of (line s))
unfolding origin_tag tag until blanks one_line
origin_line s =
    left_or (bind (push 32 (until not_blank s)) λ _ s. line_end s) (bind (passing some (push 32 (until (but 32) s))) λ _ s. utf8_of (line s)) ∙
    rw (some_push 32 (until (but 32) s), left_push 32 (until not_blank s) line_end, left_push 32 (until (but 32) s) (λ r. utf8_of (line r)), text_line s) (blank_line s)
