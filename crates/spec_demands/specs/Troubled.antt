-- Why a trouble lies in the text: what stands from it on is an end of what stands from the place given on, for each refusal that tells a line.
use Prim.Native.Nat.{ℕ, zero, suc, ◌+◌, ◌-◌, ◌≤◌}
use Rattle.std.specs.Prelude.{Bool, true, false, ◌&&◌, ◌≡◌, eqb, length, drop}
use mathlib.Core.List.{List, [], ◌∷◌, ◌++◌}
use Rattle.std.proofs.Math.Path.{refl}
use Rattle.std.proofs.Common.{sym, ap, ◌∙◌, arith, length-append, length-drop, drop-drop}
use Rattle.std.proofs.Math.Seq.{drop-length, drop-append_seam}
use Rattle.spec_format.specs.Bytes.{pick, but, May, absent, is, bytes, letter, not_blank}
use Rattle.spec_format.specs.Deep.{deep_feature}
use Rattle.spec_format.specs.Header.{Field, header_field, text_in}
use Rattle.spec_format.specs.Impossible.{impossible}
use Rattle.spec_format.specs.Locus.{preamble_turn, preamble, locus, locus_line}
use Rattle.spec_format.specs.Origin.{Letters, at_slash, at_end, bad_byte, keep, skipped, letters, origin_tag}
use Rattle.spec_format.specs.Readers.{Ans, got, no, cut, optional, until, Turn, more, stop, while_fits}
use Rattle.spec_format.specs.Record.{features, base_count, left_by, is_there, list_of, middle, deep_in, once}
use Rattle.spec_format.specs.Strict.{stray, letters_below, letters_from, stray_after, stray_in}
use Rattle.spec_format.specs.Table.{Feature}
use Rattle.spec_format.specs.Utf8.{utf8}
use Rattle.spec_format.specs.declared.Unread.{Unread}
use Rattle.spec_format.specs.declared.Unread.TheVariants as unread
use Rattle.spec_lines.specs.Stands.{Stands}
use Rattle.spec_lines.specs.Troubles.{stopped_up_to, stopped, searched, header_begins, header_ends, up_to, to_definition, definition, second_definition, letters_end, after_tag}
use Rattle.spec_lines.specs.Troubles.{origin_ends, sections_end, deep_with, deep_place, troubled}
use Rattle.spec_loops.specs.Shrinks.{Past, past_here, past_byte, past_loose, past_then, Leaves, leaves_got, leaves_no, leaves_loose, leaves_first, leaves_pick}
use Rattle.spec_loops.specs.Shrinks.{leaves_mapped, leaves_passing, leaves_or, leaves_optional}
use Rattle.spec_loops.proofs.Shrinks.{tag_loose, until_past, until1_takes, line_takes, end_takes, field_takes, header_takes, preamble_turns, features_leave, middle_leaves}
use Rattle.spec_loops.specs.Shrinks.{Turns, turns_takes, turns_here, end_leaves, tries_leave}
use Rattle.spec_strict.specs.Switch.{stray_is}

-- ---- readers and loops

past_on : (s r t : List ℕ) → Past 0 s r → Past 0 r t → Past 0 s t
past_on s r t p q = past_then 0 0 0 s r t (omega arith) p q

left_past : {A : Type 0} (s : List ℕ) (o : Ans A) → Leaves 0 s o → Past 0 s (left_by s o)
left_past s (got a r) h = h.past a r refl
left_past s no h = past_here s
left_past s cut h = past_here s

module _ {A : Type 0} (turn : List ℕ → Ans (Turn A)) (h : (s : List ℕ) → Turns s (turn s)) where
  stopped_up_to_lem : (n : ℕ) (s : List ℕ) → Past 0 s (stopped_up_to turn n s)
  unfolding stopped_up_to
  stopped_up_to_lem zero s = past_here s
  stopped_up_to_lem (suc n) s = go (λ r. stopped_up_to_lem n r) (turn s) refl
    where
      go : ((r : List ℕ) → Past 0 r (stopped_up_to turn n r)) → (o : Ans (Turn A)) → turn s ≡ o → Past 0 s (stopped_up_to turn (suc n) s)
      go ih (got (more a) r) e = rw (stopped_up_to, e) (past_on s r _ (past_loose 1 s r ((h s).on a r e)) (ih r))
      go ih (got stop r) e = rw (stopped_up_to, e) (past_here s)
      go ih no e = rw (stopped_up_to, e) (past_here s)
      go ih cut e = rw (stopped_up_to, e) (past_here s)

  stopped_past : (s : List ℕ) → Past 0 s (stopped turn s)
  unfolding stopped
  stopped_past s = stopped_up_to_lem (suc (length s)) s

-- ---- LOCUS and the header

pub searched_past : (s : List ℕ) → Past 0 s (searched s)
searched_past s = stopped_past preamble_turn preamble_turns s

locus_leaves : (s : List ℕ) → Leaves 0 s (locus s)
unfolding locus
locus_leaves s =
    leaves_first (tag_loose (bytes "LOCUS") s) (λ _ s. leaves_first (leaves_loose (until1_takes not_blank s)) (λ _ s. leaves_mapped locus_line (leaves_loose (line_takes s))))

begins_past : (s : List ℕ) → Past 0 s (header_begins s)
unfolding header_begins
begins_past s = past_on s (searched s) _ (searched_past s) (left_past (searched s) (locus (searched s)) (locus_leaves (searched s)))

ends_past : (s : List ℕ) → Past 0 s (header_ends s)
unfolding header_ends
ends_past s =
    past_on s (header_begins s) _ (begins_past s) (left_past (header_begins s) (while_fits header_field (header_begins s)) (tries_leave header_field header_takes (header_begins s)))

definition_turns : (s : List ℕ) → Turns s (to_definition s)
definition_turns s = go (header_field s) (header_takes s)
  where
    picked : (f : Field) (r : List ℕ) → Past 1 s r → (b : Bool) → Turns s (pick b (got stop s) (got (more f) r))
    picked f r p true = turns_here s
    picked f r p false = turns_takes (leaves_got 1 s (more f) r p)

    go : (o : Ans Field) → Leaves 1 s o → Turns s (up_to s o)
    go (got f r) l = picked f r (l.past f r refl) (is_there (text_in (bytes "DEFINITION") f))
    go no l = turns_here s
    go cut l = turns_here s

definition_past : (s : List ℕ) → Past 0 s (definition s)
definition_past s = stopped_past to_definition definition_turns s

second_past : (s : List ℕ) → Past 0 s (second_definition s)
unfolding second_definition
second_past s =
    let d = definition s in
    past_on s d _ (definition_past s) (past_on d (left_by d (header_field d)) _ (left_past d (header_field d) (leaves_loose (header_takes d))) (definition_past (left_by d (header_field d))))

-- ---- the sections, ORIGIN and the letters

count_leaves : (s : List ℕ) → Leaves 0 s (base_count s)
count_leaves s = leaves_loose (field_takes 0 (bytes "BASE COUNT") false s)

until_leaves : (p : ℕ → Bool) (s : List ℕ) → Leaves 0 s (until p s)
until_leaves p s = record { past = λ t r e. past_loose (length t) s r (until_past p s t r e) }

origin_leaves : (s : List ℕ) → Leaves 0 s (origin_tag s)
unfolding origin_tag
origin_leaves s =
    leaves_first (tag_loose (bytes "ORIGIN") s) (λ _ s. leaves_or (leaves_first (until_leaves not_blank s) (λ _ s. leaves_loose (end_takes s)))
    (leaves_first (leaves_loose (until1_takes (but 32) s)) (λ _ s. leaves_loose (leaves_passing utf8 (line_takes s)))))

end_past : (s : List ℕ) → Past 0 s []
end_past s = record { gone = length s; least = omega arith; within = omega arith; is = sym (drop-length s) }

keep_end : (b : ℕ) (x : Letters) → letters_end (keep b x) ≡ letters_end x
keep_end b (at_slash l r) = refl
keep_end b (at_end l) = refl
keep_end b (bad_byte r) = refl

letters_past : (s : List ℕ) → Past 0 s (letters_end (letters s))
unfolding letters
letters_past [] = past_here []
letters_past (b ∷ s) = go (past_loose 1 (b ∷ s) _ (past_byte 0 b s _ (letters_past s))) (letter b) refl (eqb b 47) refl (skipped b) refl
  where
    go :
        Past 0 (b ∷ s) (letters_end (letters s)) → (x : Bool) → letter b ≡ x → (y : Bool) → eqb b 47 ≡ y → (z : Bool) → skipped b ≡ z →
        Past 0 (b ∷ s) (letters_end (letters (b ∷ s)))
    go ih true p y q z u = rw (letters, p, keep_end b (letters s)) ih
    go ih false p true q z u = rw (letters, p, q) (past_here (b ∷ s))
    go ih false p false q true u = rw (letters, p, q, u) ih
    go ih false p false q false u = rw (letters, p, q, u) (past_here (b ∷ s))

tag_past : (s : List ℕ) → Past 0 s (origin_ends s)
tag_past s = go (origin_tag s) (origin_leaves s)
  where
    go : (o : Ans (List ℕ)) → Leaves 0 s o → Past 0 s (after_tag s o)
    go (got u r) h = past_on s r _ (h.past u r refl) (letters_past r)
    go no h = past_here s
    go cut h = past_here s

sections_past : (s : List ℕ) → Past 0 s (sections_end s)
unfolding sections_end
sections_past s = past_on s (left_by s (middle s)) _ (left_past s (middle s) (middle_leaves s)) (tag_past (left_by s (middle s)))

deep_past : (s : List ℕ) → Past 0 s (deep_place s)
unfolding deep_place
deep_past s = go (optional s (features s)) (leaves_optional (features_leave s))
  where
    picked : (r t : List ℕ) → Past 0 r t → (b : Bool) → Past 0 r (pick b r t)
    picked r t p true = past_here r
    picked r t p false = p

    go : (o : Ans (May (List Feature))) → Leaves 0 s o → Past 0 s (deep_with s o)
    go (got fs r) h =
        past_on s r _ (h.past fs r refl) (picked r (left_by r (base_count r)) (left_past r (base_count r) (count_leaves r)) (is_there fs && deep_feature r))
    go no h = past_here s
    go cut h = past_here s

-- ---- the stray letter

stray_past : (s z : List ℕ) → stray s ≡ is z → Past 0 s z
stray_past s z e =
    let k = (stray_is s z).0 e in
    let b = k.before in
    let w : s ≡ b ++ z = k.whole ∙ ap (λ (x : List ℕ). b ++ x) (sym k.starts) in
    let n : length s ≡ length b + length z = ap length w ∙ length-append b z in
    record { gone = length b; least = omega arith; within = omega arith; is = sym (ap (drop (length b)) w ∙ drop-append_seam b z) }

found_past : (s : List ℕ) (o : May (List ℕ)) → stray s ≡ o → Past 0 s (list_of o)
found_past s (is z) e = stray_past s z e
found_past s absent e = end_past s

below_leaves : (s : List ℕ) → Leaves 0 s (letters_below s)
below_leaves s = leaves_pick (deep_in s) (leaves_no 0 s) (leaves_first (middle_leaves s) (λ _ s. origin_leaves s))

from_leaves : (s : List ℕ) → Leaves 0 s (letters_from s)
unfolding letters_from preamble
from_leaves s =
    leaves_first (end_leaves preamble_turn preamble_turns s) (λ _ s. leaves_first (locus_leaves s) (λ _ s. leaves_first (tries_leave header_field header_takes s)
    (λ fs s. leaves_pick (once fs) (below_leaves s) (leaves_no 0 s))))

stray_in_past : (s : List ℕ) → Past 0 s (list_of (stray_in s))
stray_in_past s = go (letters_from s) (from_leaves s)
  where
    go : (o : Ans (List ℕ)) → Leaves 0 s o → Past 0 s (list_of (stray_after o))
    go (got u r) h = past_on s r _ (h.past u r refl) (found_past r (stray r) refl)
    go no h = end_past s
    go cut h = end_past s

-- ---- each refusal

pub troubled_past : (why : Unread) (s t : List ℕ) → troubled why s ≡ is t → Past 0 s t
troubled_past unread.AtEnd s t e = impossible cc
troubled_past unread.BadPlace s t e = impossible cc
troubled_past unread.Unended s t e = let f : [] ≡ t = cc in rw f at (end_past s)
troubled_past unread.NoLocus s t e = let f : searched s ≡ t = cc in rw f at (searched_past s)
troubled_past unread.TwoDefinitions s t e =
    let f : second_definition (header_begins s) ≡ t = cc in rw f at (past_on s (header_begins s) _ (begins_past s) (second_past (header_begins s)))
troubled_past unread.NoSlashes s t e =
    let f : sections_end (header_ends s) ≡ t = cc in rw f at (past_on s (header_ends s) _ (ends_past s) (sections_past (header_ends s)))
troubled_past unread.OtherLength s t e =
    let f : sections_end (header_ends s) ≡ t = cc in rw f at (past_on s (header_ends s) _ (ends_past s) (sections_past (header_ends s)))
troubled_past unread.BadLetter s t e =
    let f : sections_end (header_ends s) ≡ t = cc in rw f at (past_on s (header_ends s) _ (ends_past s) (sections_past (header_ends s)))
troubled_past unread.TooDeep s t e =
    let f : deep_place (header_ends s) ≡ t = cc in rw f at (past_on s (header_ends s) _ (ends_past s) (deep_past (header_ends s)))
troubled_past unread.StrayLetter s t e = let f : list_of (stray_in s) ≡ t = cc in rw f at (stray_in_past s)

-- an end of what stands from the place on stands in the slice
pub past_stands : (s : List ℕ) (at : ℕ) (t : List ℕ) → at ≤ length s → Past 0 (drop at s) t → Stands s at t (length s - length t)
past_stands s at t l p =
    let n : length (drop at s) ≡ length s - at = length-drop at s in
    let m : length t ≡ length (drop at s) - p.gone = ap length p.is ∙ length-drop p.gone (drop at s) in
    let w = p.within in
    let e : length s - length t ≡ at + p.gone = omega arith in
    rw e (record { is = sym (p.is ∙ drop-drop p.gone at s); from = omega arith; within = omega arith })
