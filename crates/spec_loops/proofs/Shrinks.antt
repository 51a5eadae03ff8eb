-- Readers take bytes: what each leaves is the end of what it was given, and those that loops use take a byte at least.
use Prim.Native.Nat.{ℕ, suc}
use Rattle.std.specs.Prelude.{◌≡◌, Bool, true, false, length, eqb}
use Rattle.std.proofs.Math.Path.{refl}
use Rattle.std.proofs.Common.{arith}
use mathlib.Core.List.{List, [], ◌∷◌}
use Rattle.spec_format.specs.Bytes.{absent, is, some, bytes, spaces, letter, space, but, not_blank}
use Rattle.spec_format.specs.Readers.{Ans, got, no, cut, bind, passing, unless, tag, push, until, until1, line_feed}
use Rattle.spec_format.specs.Readers.{line, line_end, Turn, more, stop, fitting, fit_turn, many0}
use Rattle.spec_format.specs.Header.{further_line, field_text, field_bytes, field, maybe_field, reference, source, entry_of, source_of, reference_of, dropped, ignored_line, entry, header_field}
use Rattle.spec_format.specs.Features.{not_slash, bare_turn, bare_more, bare, escape, quoted_end, special, quoted_turn}
use Rattle.spec_format.specs.Features.{features_header, quoted, value, key_end, value_of, qualifier, kind_text, feature_from, feature}
use Rattle.spec_format.specs.Location.{locates}
use Rattle.spec_format.specs.Locus.{skipping, preamble_turn}
use Rattle.spec_format.specs.Origin.{Letters, at_slash, at_end, bad_byte, keep, skipped, letters}
use Rattle.spec_format.specs.Record.{features, contig_of, middle}
use Rattle.spec_format.specs.Utf8.{utf8}
use Rattle.spec_loops.specs.Loops.{Shrinks, Takes}
use Rattle.spec_format.specs.Impossible.{impossible}
use Rattle.spec_loops.specs.Shrinks.{Past, past_here, past_byte, past_less, past_loose, past_then, past_length, Leaves, leaves_got, leaves_no, leaves_cut, leaves_less, leaves_loose, leaves_first, leaves_mapped, leaves_pick, leaves_passing, leaves_or, leaves_optional, Turns, turns_takes, turns_here, loop_leaves, tries_leave}

-- ---- the combinators

module _ {A B : Type 0} where
  leaves_then : {m : ℕ} {s : List ℕ} {o : Ans A} {k : A → List ℕ → Ans B} → Leaves 0 s o → ((a : A) (r : List ℕ) → Leaves m r (k a r)) → Leaves m s (bind o k)
  leaves_then {m} {s} {o} {k} h g = go o refl
    where
      go : (x : Ans A) → o ≡ x → Leaves m s (bind x k)
      go (got a r) e = record { past = λ b z f. past_then 0 m m s r z (omega arith) (h.past a r e) ((g a r).past b z f) }
      go no e = leaves_no m s
      go cut e = leaves_cut m s

  leaves_unless : {m : ℕ} {s : List ℕ} {x : Ans B} (o : Ans A) → Leaves m s x → Leaves m s (unless o x)
  leaves_unless {m} {s} {x} o h = go o
    where
      go : (o : Ans A) → Leaves m s (unless o x)
      go (got a r) = leaves_no m s
      go no = h
      go cut = leaves_cut m s

-- one byte more
leaves_byte : {A : Type 0} (m b : ℕ) (s : List ℕ) (o : Ans A) → Leaves m s o → Leaves (suc m) (b ∷ s) o
leaves_byte m b s o h = record { past = λ a r e. past_byte m b s r (h.past a r e) }

leaves_push : (m b : ℕ) (s : List ℕ) (o : Ans (List ℕ)) → Leaves m s o → Leaves (suc m) (b ∷ s) (push b o)
leaves_push m b s (got t r) h = leaves_got (suc m) (b ∷ s) (b ∷ t) r (past_byte m b s r (h.past t r refl))
leaves_push m b s no h = leaves_no (suc m) (b ∷ s)
leaves_push m b s cut h = leaves_cut (suc m) (b ∷ s)

-- ---- the readers of Readers.antt

pub tag_leaves : (w s : List ℕ) → Leaves (length w) s (tag w s)
unfolding tag
tag_leaves [] s = leaves_got 0 s tt s (past_here s)
tag_leaves (c ∷ w) [] = leaves_cut _ []
tag_leaves (c ∷ w) (b ∷ s) = go (tag_leaves w s) (eqb b c) refl
  where
    go : Leaves (length w) s (tag w s) → (x : Bool) → eqb b c ≡ x → Leaves (suc (length w)) (b ∷ s) (tag (c ∷ w) (b ∷ s))
    go ih true e = rw (tag, e) (leaves_byte (length w) b s (tag w s) ih)
    go ih false e = rw (tag, e) (leaves_no _ _)

pub tag_loose : (w s : List ℕ) → Leaves 0 s (tag w s)
tag_loose w s = leaves_loose (tag_leaves w s)

-- as many bytes are gone as were read
pub until_past : (p : ℕ → Bool) (s t r : List ℕ) → until p s ≡ got t r → Past (length t) s r
unfolding until
until_past p [] t r h = impossible cc
until_past p (b ∷ s) t r h = go (λ u. until_past p s u) (p b) refl (until p s) refl
  where
    go : ((u z : List ℕ) → until p s ≡ got u z → Past (length u) s z) → (x : Bool) → p b ≡ x → (o : Ans (List ℕ)) → until p s ≡ o → Past (length t) (b ∷ s) r
    go ih true e o f =
        let u : t ≡ [] = cc in
        let v : r ≡ b ∷ s = cc in rw (u, v) (past_here (b ∷ s))
    go ih false e (got u z) f =
        let v : t ≡ b ∷ u = cc in
        let w : z ≡ r = cc in rw v (rw w at (past_byte (length u) b s z (ih u z f)))
    go ih false e no f = impossible cc
    go ih false e cut f = impossible cc

pub until1_takes : (p : ℕ → Bool) (s : List ℕ) → Leaves 1 s (until1 p s)
until1_takes p s = go (until p s) refl
  where
    go : (o : Ans (List ℕ)) → until p s ≡ o → Leaves 1 s (passing some o)
    go (got [] r) e = leaves_no 1 s
    go (got (b ∷ t) r) e = leaves_got 1 s (b ∷ t) r (past_less 1 (length (b ∷ t)) s r (omega arith) (until_past p s (b ∷ t) r e))
    go no e = leaves_no 1 s
    go cut e = leaves_cut 1 s

feed_takes : (s : List ℕ) → Leaves 1 s (line_feed s)
feed_takes [] = leaves_cut 1 []
feed_takes (b ∷ s) = leaves_pick (eqb b 10) (leaves_got 1 (b ∷ s) [] s (past_byte 0 b s s (past_here s))) (leaves_no 1 (b ∷ s))

pub line_takes : (s : List ℕ) → Leaves 1 s (line s)
unfolding line
line_takes [] = leaves_cut 1 []
line_takes (b ∷ s) = go (line_takes s) (eqb b 10) refl (eqb b 13) refl
  where
    go : Leaves 1 s (line s) → (x : Bool) → eqb b 10 ≡ x → (y : Bool) → eqb b 13 ≡ y → Leaves 1 (b ∷ s) (line (b ∷ s))
    go ih true e y f = rw (line, e) (leaves_got 1 (b ∷ s) [] s (past_byte 0 b s s (past_here s)))
    go ih false e true f = rw (line, e, f) (leaves_less 1 2 (b ∷ s) (line_feed s) (omega arith) (leaves_byte 1 b s (line_feed s) (feed_takes s)))
    go ih false e false f = rw (line, e, f) (leaves_less 1 2 (b ∷ s) (push b (line s)) (omega arith) (leaves_push 1 b s (line s) ih))

pub end_takes : (s : List ℕ) → Leaves 1 s (line_end s)
unfolding line_end
end_takes [] = leaves_cut 1 []
end_takes (b ∷ s) = go (eqb b 10) refl (eqb b 13) refl
  where
    go : (x : Bool) → eqb b 10 ≡ x → (y : Bool) → eqb b 13 ≡ y → Leaves 1 (b ∷ s) (line_end (b ∷ s))
    go true e y f = rw (line_end, e) (leaves_got 1 (b ∷ s) [] s (past_byte 0 b s s (past_here s)))
    go false e true f = rw (line_end, e, f) (leaves_less 1 2 (b ∷ s) (line_feed s) (omega arith) (leaves_byte 1 b s (line_feed s) (feed_takes s)))
    go false e false f = rw (line_end, e, f) (leaves_no 1 (b ∷ s))

-- ---- loops

module _ {A : Type 0} where
  turns_cut : (s : List ℕ) → Turns {A = A} s cut
  turns_cut s = turns_takes (leaves_cut 1 s)

  turns_shrinks : (turn : List ℕ → Ans (Turn A)) → ((s : List ℕ) → Turns s (turn s)) → Shrinks turn
  turns_shrinks turn h s a r e = omega (arith, past_length 1 s r ((h s).on a r e))

  leaves_takes : (p : List ℕ → Ans A) → ((s : List ℕ) → Leaves 1 s (p s)) → Takes p
  leaves_takes p h s a r e = omega (arith, past_length 1 s r ((h s).past a r e))

  turns_fit : (p : List ℕ → Ans A) → ((s : List ℕ) → Leaves 1 s (p s)) → (s : List ℕ) → Turns s (fit_turn p s)
  turns_fit p h s = go (p s) (h s)
    where
      go : (o : Ans A) → Leaves 1 s o → Turns s (fitting s o)
      go (got a r) l = turns_takes (leaves_got 1 s (more a) r (l.past a r refl))
      go no l = turns_here s
      go cut l = turns_cut s

many0_leaves : {A : Type 0} (p : List ℕ → Ans A) → ((s : List ℕ) → Leaves 1 s (p s)) → (s : List ℕ) → Leaves 0 s (many0 p s)
many0_leaves p h s = loop_leaves (fit_turn p) (turns_fit p h) s

-- ---- the header's readers

further_takes : (n : ℕ) (s : List ℕ) → Leaves 1 s (further_line n s)
further_takes n s = leaves_then (tag_loose (spaces n) s) (λ _ r. line_takes r)

pub text_takes : (n : ℕ) (keep : Bool) (s : List ℕ) → Leaves 1 s (field_text n keep s)
unfolding field_text
text_takes n keep s =
    leaves_first (line_takes s) (λ first r. leaves_first (many0_leaves (further_line n) (further_takes n) r) (λ rest z. leaves_got 0 z _ z (past_here z)))

bytes_takes : (indent : ℕ) (word : List ℕ) (keep : Bool) (s : List ℕ) → Leaves 1 s (field_bytes indent word keep s)
unfolding field_bytes
bytes_takes indent word keep s =
    leaves_then (tag_loose (spaces indent) s) (λ _ s. leaves_then (tag_loose word s) (λ _ s. leaves_first (until1_takes (but 32) s) (λ gap s. leaves_loose (text_takes _ keep s))))

pub field_takes : (indent : ℕ) (word : List ℕ) (keep : Bool) (s : List ℕ) → Leaves 1 s (field indent word keep s)
unfolding field
field_takes indent word keep s = leaves_passing utf8 (bytes_takes indent word keep s)

maybe_leaves : (indent : ℕ) (word : List ℕ) (keep : Bool) (s : List ℕ) → Leaves 0 s (maybe_field indent word keep s)
maybe_leaves indent word keep s = leaves_optional (leaves_loose (field_takes indent word keep s))

reference_takes : (s : List ℕ) → Leaves 1 s (reference s)
unfolding reference
reference_takes s =
    leaves_first (field_takes _ _ _ s) (λ _ s. leaves_first (maybe_leaves _ _ _ s) (λ _ s. leaves_first (maybe_leaves _ _ _ s) (λ _ s.
    leaves_first (leaves_loose (field_takes _ _ _ s)) (λ _ s. leaves_first (maybe_leaves _ _ _ s) (λ _ s. leaves_first (maybe_leaves _ _ _ s) (λ _ s.
    leaves_first (maybe_leaves _ _ _ s) (λ _ s. leaves_got 0 s _ s (past_here s))))))))

source_takes : (s : List ℕ) → Leaves 1 s (source s)
unfolding source
source_takes s = leaves_first (field_takes _ _ _ s) (λ _ s. leaves_first (maybe_leaves _ _ _ s) (λ _ s. leaves_got 0 s _ s (past_here s)))

ignored_takes : (s : List ℕ) → Leaves 1 s (ignored_line s)
unfolding ignored_line
ignored_takes s =
    leaves_unless (tag (bytes "ORIGIN") s) (leaves_unless (tag (bytes "CONTIG") s) (leaves_unless (tag (bytes "FEATURES") s) (leaves_unless (tag (bytes "//") s)
    (leaves_passing utf8 (line_takes s)))))

entry_takes : (word s : List ℕ) → Leaves 1 s (entry word s)
entry_takes word s = leaves_mapped (entry_of word) (field_takes 0 word true s)

pub header_takes : (s : List ℕ) → Leaves 1 s (header_field s)
unfolding header_field
header_takes s =
    leaves_or (entry_takes _ s) (leaves_or (entry_takes _ s) (leaves_or (entry_takes _ s) (leaves_or (entry_takes _ s) (leaves_or (entry_takes _ s)
    (leaves_or (leaves_mapped source_of (source_takes s)) (leaves_or (leaves_mapped reference_of (reference_takes s)) (leaves_or (entry_takes _ s)
    (leaves_mapped (λ l. dropped) (ignored_takes s)))))))))

-- ---- the feature table's readers

bare_more_turns : (indent : ℕ) (s : List ℕ) → Turns s (bare_more indent s)
bare_more_turns indent s = go (bind (tag (spaces indent) s) λ _ r. not_slash r) (leaves_first (tag_loose (spaces indent) s) (λ _ r. peek r))
  where
    peek : (s : List ℕ) → Leaves 0 s (not_slash s)
    peek [] = leaves_no 0 []
    peek (b ∷ s) = leaves_pick (eqb b 47) (leaves_no 0 (b ∷ s)) (leaves_got 0 (b ∷ s) tt (b ∷ s) (past_here (b ∷ s)))

    go : (o : Ans Unit) → Leaves 0 s o → Turns s (bare_turn s o)
    go (got u r) h = turns_takes (leaves_mapped more (record { past = λ l z e. past_then 0 1 1 s r z (omega arith) (h.past u r refl) ((line_takes r).past l z e) }))
    go no h = turns_here s
    go cut h = turns_cut s

pub bare_takes : (indent : ℕ) (s : List ℕ) → Leaves 1 s (bare indent s)
unfolding bare
bare_takes indent s = leaves_first (line_takes s) (λ _ s. leaves_first (loop_leaves (bare_more indent) (bare_more_turns indent) s) (λ _ s. leaves_got 0 s _ s (past_here s)))

escape_takes : (indent : ℕ) (s : List ℕ) → Leaves 1 s (escape indent s)
unfolding escape
escape_takes indent s =
    leaves_or (leaves_mapped (λ _. 34) (leaves_less 1 2 s (tag (bytes "\"\"") s) (omega arith) (tag_leaves (bytes "\"\"") s)))
    (leaves_or (leaves_first (tag_leaves (bytes "\"") s) (λ _ s. leaves_first (leaves_loose (end_takes s)) (λ _ s. leaves_first (tag_loose (spaces indent) s) (λ _ s.
    leaves_mapped (λ _. 34) (tag_loose (bytes "\"") s)))))
    (leaves_first (end_takes s) (λ _ s. leaves_mapped (λ _. 10) (tag_loose (spaces indent) s))))

quoted_turn_takes : (joined : Bool) (indent : ℕ) (s : List ℕ) → Leaves 1 s (quoted_turn joined indent s)
unfolding quoted_turn
quoted_turn_takes joined indent [] = leaves_cut 1 []
quoted_turn_takes joined indent (b ∷ s) =
    leaves_pick (special b) (go (escape indent (b ∷ s)) (escape_takes indent (b ∷ s))) (leaves_got 1 (b ∷ s) (more (b ∷ [])) s (past_byte 0 b s s (past_here s)))
  where
    go : (o : Ans ℕ) → Leaves 1 (b ∷ s) o → Leaves 1 (b ∷ s) (quoted_end joined (b ∷ s) o)
    go (got c r) h = leaves_got 1 (b ∷ s) _ r (h.past c r refl)
    go no h = leaves_first (tag_leaves (bytes "\"") (b ∷ s)) (λ _ r. leaves_mapped (λ _. stop) (leaves_loose (end_takes r)))
    go cut h = leaves_cut 1 (b ∷ s)

quoted_turn_turns : (joined : Bool) (indent : ℕ) (s : List ℕ) → Turns s (quoted_turn joined indent s)
quoted_turn_turns joined indent s = turns_takes (quoted_turn_takes joined indent s)

quoted_takes : (joined : Bool) (indent : ℕ) (s : List ℕ) → Leaves 1 s (quoted joined indent s)
unfolding quoted
quoted_takes joined indent s =
    leaves_first (tag_leaves (bytes "\"") s) (λ _ s. leaves_first (loop_leaves (quoted_turn joined indent) (quoted_turn_turns joined indent) s) (λ _ s. leaves_got 0 s _ s (past_here s)))

value_takes : (indent : ℕ) (key s : List ℕ) → Leaves 1 s (value indent key s)
unfolding value
value_takes indent key s = leaves_or (leaves_passing utf8 (quoted_takes _ indent s)) (leaves_passing utf8 (bare_takes indent s))

value_of_takes : (indent : ℕ) (key s : List ℕ) → Leaves 1 s (value_of indent key s)
unfolding value_of
value_of_takes indent key s =
    leaves_or (leaves_first (tag_leaves (bytes "=") s) (λ _ s. leaves_mapped is (leaves_loose (value_takes indent key s)))) (leaves_mapped (λ _. absent) (end_takes s))

qualifier_takes : (indent : ℕ) (s : List ℕ) → Leaves 1 s (qualifier indent s)
unfolding qualifier
qualifier_takes indent s =
    leaves_then (tag_loose (spaces indent) s) (λ _ s. leaves_first (tag_leaves (bytes "/") s) (λ _ s. leaves_first (leaves_loose (leaves_passing utf8 (until1_takes key_end s))) (λ key s.
    leaves_first (leaves_loose (value_of_takes indent key s)) (λ _ s. leaves_got 0 s _ s (past_here s)))))

from_takes : (indent : ℕ) (kind s : List ℕ) → Leaves 1 s (feature_from indent kind s)
unfolding feature_from
from_takes indent kind s =
    leaves_first (leaves_passing (locates false) (bare_takes indent s)) (λ _ s. leaves_first (many0_leaves (qualifier indent) (qualifier_takes indent) s) (λ _ s. leaves_got 0 s _ s (past_here s)))

feature_takes : (s : List ℕ) → Leaves 1 s (feature s)
unfolding feature
feature_takes s =
    leaves_first (until1_takes (but 32) s) (λ _ s. leaves_first (leaves_loose (leaves_passing kind_text (until1_takes space s))) (λ _ s. leaves_first (leaves_loose (until1_takes (but 32) s)) (λ _ s.
    leaves_loose (from_takes _ _ s))))

-- ---- the lines before LOCUS, and the sections

pub preamble_turns : (s : List ℕ) → Turns s (preamble_turn s)
preamble_turns s = go (tag (bytes "LOCUS") s)
  where
    go : (o : Ans Unit) → Turns s (skipping s o)
    go (got u r) = turns_here s
    go no = turns_takes (leaves_mapped more (leaves_passing utf8 (line_takes s)))
    go cut = turns_takes (leaves_mapped more (leaves_passing utf8 (line_takes s)))

letters_leave : (s l r : List ℕ) → letters s ≡ at_slash l r → Past 0 s r
unfolding letters
letters_leave [] l r h = impossible cc
letters_leave (b ∷ s) l r h = go (λ k. letters_leave s k) (letter b) refl (eqb b 47) refl (skipped b) refl (letters s) refl
  where
    step : (k : List ℕ) → ((k z : List ℕ) → letters s ≡ at_slash k z → Past 0 s z) → letters s ≡ at_slash k r → Past 0 (b ∷ s) r
    step k ih e = past_loose 1 (b ∷ s) r (past_byte 0 b s r (ih k r e))

    go :
        ((k z : List ℕ) → letters s ≡ at_slash k z → Past 0 s z) → (x : Bool) → letter b ≡ x → (y : Bool) → eqb b 47 ≡ y → (z : Bool) → skipped b ≡ z →
        (o : Letters) → letters s ≡ o → Past 0 (b ∷ s) r
    go ih true p y q z u (at_slash k t) e = step k ih (cc)
    go ih true p y q z u (at_end k) e = impossible cc
    go ih true p y q z u (bad_byte k) e = impossible cc
    go ih false p true q z u o e = let f : r ≡ b ∷ s = cc in rw f (past_here (b ∷ s))
    go ih false p false q true u o e = step l ih (cc)
    go ih false p false q false u o e = impossible cc

pub features_leave : (s : List ℕ) → Leaves 0 s (features s)
unfolding features features_header
features_leave s =
    leaves_first (leaves_first (tag_loose (bytes "FEATURES") s) (λ _ s. leaves_first (leaves_loose (until1_takes not_blank s)) (λ _ s.
    leaves_first (tag_loose (bytes "Location/Qualifiers") s) (λ _ s. leaves_loose (end_takes s))))) (λ _ s. tries_leave feature feature_takes s)

pub middle_leaves : (s : List ℕ) → Leaves 0 s (middle s)
unfolding middle
middle_leaves s =
    leaves_first (leaves_optional (features_leave s)) (λ _ s. leaves_first (maybe_leaves 0 (bytes "BASE COUNT") false s) (λ _ s.
    leaves_first (leaves_optional (leaves_mapped contig_of (leaves_passing (locates true) (leaves_loose (bytes_takes 0 (bytes "CONTIG") false s))))) (λ _ s. leaves_got 0 s _ s (past_here s))))

-- ---- what the laws of Loops.antt ask for

pub further_small : (n : ℕ) → Takes (further_line n)
further_small n = leaves_takes (further_line n) (further_takes n)

pub qualifier_small : (indent : ℕ) → Takes (qualifier indent)
qualifier_small indent = leaves_takes (qualifier indent) (qualifier_takes indent)

pub feature_small : Takes feature
feature_small = leaves_takes feature feature_takes

pub header_small : Takes header_field
header_small = leaves_takes header_field header_takes

pub line_end_small : Takes line_end
line_end_small = leaves_takes line_end end_takes

pub bare_more_small : (indent : ℕ) → Shrinks (bare_more indent)
bare_more_small indent = turns_shrinks (bare_more indent) (bare_more_turns indent)

pub quoted_turn_small : (joined : Bool) (indent : ℕ) → Shrinks (quoted_turn joined indent)
quoted_turn_small joined indent = turns_shrinks (quoted_turn joined indent) (quoted_turn_turns joined indent)

pub preamble_small : Shrinks preamble_turn
preamble_small = turns_shrinks preamble_turn preamble_turns
