-- One qualifier by what follows its key, and the loop over qualifiers: each turn, and each way out. Assumes nothing.
use Prim.Native.Nat.{ℕ, ◌+◌, ◌-◌, ◌≤◌, ◌<◌}
use mathlib.Core.Path.{◌≡◌, sym, ap, subst, ◌∙◌}
use mathlib.Core.Bool.{Bool}
use mathlib.Core.List.{List, [], ◌∷◌}
use native.Mathlib.Omega.{arith}
use lib.ListN.{length, drop, length-append}
use Rattle.spec_format.specs.Bytes.{absent, is, bytes, same}
use Rattle.spec_format.specs.Table.{Qualifier}
use Rattle.spec_format.specs.Readers.{got, cut, fit_turn, members, end, many0}
use Rattle.spec_format.specs.Features.{value_of, qualifier}
use Rattle.spec_format.specs.Rooms.{pieces_text, qualifier_pieces, texts_of}
use Rattle.scan_bytes.specs.Places.{part}
use Rattle.scan_bytes.specs.Parts.{length_part}
use Rattle.read_feature_value.specs.Reads.{read_text, Placed}
use Rattle.read_feature_key_end.specs.Tails.{value_of_with, value_of_with_lem, tail_of, PastTail, TailIs}
use Rattle.read_feature_key_end.specs.declared.Tail.{Tail}
use Rattle.read_feature_key_end.specs.declared.Tail.TheVariants as tail
use Rattle.read_feature_names.specs.Headed.{key_head, with_key, PastKey, KeyRead, qualifier_is}
use Rattle.read_feature_names.specs.declared.Key.{Key}
use Rattle.read_feature_names.specs.declared.Key.TheVariants as key
use Rattle.read_feature_qualifiers.specs.declared.ValueAt.{ValueAt}
use Rattle.read_feature_qualifiers.specs.declared.ValueAt.TheVariants as value
use Rattle.read_feature_qualifiers.specs.declared.QualifierAt.{QualifierAt}
use Rattle.read_feature_qualifiers.specs.declared.QualifierAt.TheVariants as one
use Rattle.read_feature_qualifiers.specs.declared.QualifiersAt.TheVariants as all
use Rattle.read_feature_qualifiers.specs.Reads.{qualifier_in, QualifierRead, QualifiersRead}
use Rattle.read_feature_qualifiers.specs.Texts.{absent_text, with_text, texts_more, texts_none}
use Rattle.read_feature_qualifiers.specs.Turns.{qualifiers_in, Reached, reached_none, known, one_more, reached_more, reached_less, count_fits, none_stop, reached_stop, reached_cut, all_stop}

-- ---- the texts of a qualifier

absent_length : (k : List ℕ) → length (pieces_text (qualifier_pieces (record { key = k; value = absent }))) ≡ length k
absent_length k = ap length (absent_text k)

with_length : (k v : List ℕ) → length (pieces_text (qualifier_pieces (record { key = k; value = is v }))) ≡ length k + length v
with_length k v = ap length (with_text k v) ∙ length-append k v

more_length : (q : Qualifier) (qs : List Qualifier) → length (texts_of qualifier_pieces (q ∷ qs)) ≡ length (pieces_text (qualifier_pieces q)) + length (texts_of qualifier_pieces qs)
more_length q qs = ap length (texts_more q qs) ∙ length-append (pieces_text (qualifier_pieces q)) (texts_of qualifier_pieces qs)

-- ---- what follows the key

module _ (s : List ℕ) (at indent first end : ℕ) (joined : Bool) (r : Tail)
    (p : (at < first) × (first < end) × (end ≤ length s)) (j : joined ≡ same (part first end s) (bytes "translation"))
    (h : TailIs s end joined indent (value_of_with joined indent (drop end s)) r) where
  tail_is : (x : Tail) → r ≡ x → value_of indent (part first end s) (drop end s) ≡ tail_of s joined indent x
  tail_is x e = value_of_with_lem indent (part first end s) (drop end s) ∙ rw (← j, ← h.is, e)

  tail_place : (x : Tail) → r ≡ x → PastTail s end joined indent x
  tail_place x e = subst (λ (x : Tail). PastTail s end joined indent x) e h.place

  pub qualifier_absent : (next : ℕ) → r ≡ tail.Absent next
      → QualifierRead s at indent (with_key indent (got (part first end s) (drop end s))) (one.Got first end joined value.Absent (end - first) next)
  qualifier_absent next e =
      let q : (end < next) × (next ≤ length s) = tail_place (tail.Absent next) e in
      let f : first ≤ end = omega arith in
      record {
        is =
            record {
              is = rw (tail_is (tail.Absent next) e);
              stands = tt;
              sized = sym (absent_length (part first end s) ∙ length_part s first end f p.2);
              key = p.1;
              keyed = p.2;
              small = omega arith;
              within = q.1;
            };
      }

  pub qualifier_with : (from : ℕ) (quoted : Bool) (n next : ℕ) → r ≡ tail.With from quoted n next
      → QualifierRead s at indent (with_key indent (got (part first end s) (drop end s))) (one.Got first end joined (value.With from quoted n) (end - first + n) next)
  qualifier_with from quoted n next e =
      let q = tail_place (tail.With from quoted n next) e in
      let g : end ≤ from = q.0 in
      let w : Placed s from joined indent quoted n next = q.1 in let z = w.span in
      let a = z.from in let b = z.within in let l = z.long in let m = z.short in
      let f : first ≤ end = omega arith in
      let k : length (part first end s) ≡ end - first = length_part s first end f p.2 in
      record {
        is =
            record {
              is = rw (tail_is (tail.With from quoted n next) e);
              stands = (omega arith, w);
              sized = omega (arith, with_length (part first end s) (read_text quoted joined indent (drop from s)));
              key = p.1;
              keyed = p.2;
              small = omega arith;
              within = b;
            };
      }

  pub value_fits : (from : ℕ) (quoted : Bool) (n next : ℕ) → r ≡ tail.With from quoted n next → end - first + n ≤ length s
  value_fits from quoted n next e =
      let q = tail_place (tail.With from quoted n next) e in
      let g : end ≤ from = q.0 in
      let w : Placed s from joined indent quoted n next = q.1 in let z = w.span in
      let a = z.from in let b = z.within in let m = z.short in
      omega arith

  pub qualifier_bad : r ≡ tail.No → QualifierRead s at indent (with_key indent (got (part first end s) (drop end s))) one.No
  qualifier_bad e = record { is = rw (tail_is tail.No e) }

  pub qualifier_short : r ≡ tail.Cut → QualifierRead s at indent (with_key indent (got (part first end s) (drop end s))) one.Cut
  qualifier_short e = record { is = rw (tail_is tail.Cut e) }

pub ruleset tailing = (qualifier_absent, qualifier_with, value_fits, qualifier_bad, qualifier_short)

-- ---- the key

module _ (s : List ℕ) (at indent : ℕ) (r : Key) (h : KeyRead s at (key_head indent (drop at s)) r) where
  key_place : (x : Key) → r ≡ x → PastKey s at x
  key_place x e = subst (λ (x : Key). PastKey s at x) e h.place

  pub key_before : (first end : ℕ) → r ≡ key.Got first end → at < first
  key_before first end e = (key_place (key.Got first end) e).0

  pub key_some : (first end : ℕ) → r ≡ key.Got first end → first < end
  key_some first end e = (key_place (key.Got first end) e).1

  pub key_within : (first end : ℕ) → r ≡ key.Got first end → end ≤ length s
  key_within first end e = (key_place (key.Got first end) e).2

  pub qualifier_got : (first end : ℕ) (q : QualifierAt) → r ≡ key.Got first end
      → QualifierRead s at indent (with_key indent (got (part first end s) (drop end s))) q → QualifierRead s at indent (qualifier indent (drop at s)) q
  qualifier_got first end q e g = rw (qualifier_is indent (drop at s), ← h.is, e) g

  pub qualifier_no : r ≡ key.No → QualifierRead s at indent (qualifier indent (drop at s)) one.No
  qualifier_no e = record { is = rw (qualifier_is indent (drop at s), ← h.is, e) }

  pub qualifier_cut : r ≡ key.Cut → QualifierRead s at indent (qualifier indent (drop at s)) one.Cut
  qualifier_cut e = record { is = rw (qualifier_is indent (drop at s), ← h.is, e) }

pub ruleset keying = (key_before, key_some, key_within, qualifier_got, qualifier_no, qualifier_cut)

-- ---- the loop

abbrev texts_at : List ℕ → ℕ → ℕ → List ℕ
texts_at s indent i = texts_of qualifier_pieces (qualifiers_in s indent i)

-- the qualifiers from `at` up to i were counted, with the lengths of their texts
pub record Counted (s : List ℕ) (at indent i count bytes : ℕ) : Type 0 where
  pub reached : Reached s at indent i count
  pub small : bytes + at ≤ i
  pub sizes : length (texts_at s indent at) ≡ bytes + length (texts_at s indent i)

many0_is : (indent : ℕ) (x z : List ℕ) → end (fit_turn (qualifier indent)) x ≡ got tt z → many0 (qualifier indent) x ≡ got (members (fit_turn (qualifier indent)) x) z
many0_is indent x z e = rw e

many0_none : (indent : ℕ) (x : List ℕ) → end (fit_turn (qualifier indent)) x ≡ cut → many0 (qualifier indent) x ≡ cut
many0_none indent x e = rw e

module _ (s : List ℕ) (at indent : ℕ) where
  pub counted_none : at ≤ length s → Counted s at indent at 0 0
  counted_none h = record { reached = reached_none s at indent h; small = omega arith; sizes = omega arith }

  module _ (i count bytes : ℕ) (r : QualifierAt) (g : Counted s at indent i count bytes) (h : QualifierRead s i indent (qualifier indent (drop i s)) r) where
    module _ (first stop : ℕ) (joined : Bool) (v : ValueAt) (more next : ℕ) (e : r ≡ one.Got first stop joined v more next) where
      pub counted_more : Counted s at indent next (count + 1) (bytes + more)
      counted_more =
          let k = known s at indent i count r h first stop joined v more next e in
          let a = k.small in let b = g.small in let f = k.sized in let w = g.sizes in
          let the : Qualifier = qualifier_in s indent first stop joined v in
          let t : length (texts_at s indent i) ≡ length (texts_of qualifier_pieces (the ∷ qualifiers_in s indent next)) =
          ap (λ (l : List Qualifier). length (texts_of qualifier_pieces l)) (one_more s at indent i count r h first stop joined v more next e) in
          record {
            reached = reached_more s at indent i count r h first stop joined v more next e g.reached;
            small = omega arith;
            sizes = omega (arith, more_length the (qualifiers_in s indent next));
          }

      pub bytes_fit : bytes + more ≤ length s
      bytes_fit = let k = known s at indent i count r h first stop joined v more next e in let a = k.small in let b = k.within in let d = g.small in omega arith

    pub counted_stop : r ≡ one.No → QualifiersRead s at (qualifiers_in s indent at) (many0 (qualifier indent) (drop at s)) (all.Got count bytes i)
    counted_stop e =
        let t : length (texts_at s indent i) ≡ length (texts_of qualifier_pieces []) =
        ap (λ (l : List Qualifier). length (texts_of qualifier_pieces l)) (none_stop s at indent i count r h e) in
        let w = g.sizes in let b = g.small in
        record {
          is =
              record {
                is = many0_is indent (drop at s) (drop i s) (reached_stop s at indent i count r h g.reached e);
                counted = all_stop s at indent i count r h g.reached e;
                sized = omega (arith, ap length texts_none);
                from = omega arith;
                within = g.reached.within;
                small = g.small;
                few = g.reached.few;
              };
        }

    pub counted_cut : r ≡ one.Cut → QualifiersRead s at (qualifiers_in s indent at) (many0 (qualifier indent) (drop at s)) all.Cut
    counted_cut e = record { is = many0_none indent (drop at s) (reached_cut s at indent i count r h g.reached e) }

pub ruleset counting = (counted_none, counted_more, reached_less, count_fits, bytes_fit, counted_stop, counted_cut)
