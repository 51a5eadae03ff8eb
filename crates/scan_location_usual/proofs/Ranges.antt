-- A range, and a whole text that is one or its complement: what is read of it, by the definitions. Assumes nothing.
use Prim.Native.Nat.{ℕ, zero, suc, ◌+◌, ◌-◌, ◌^◌, ◌≤◌, ◌<◌}
use mathlib.Core.Path.{◌≡◌, refl, sym, ap, ◌∙◌}
use mathlib.Core.Bool.{Bool, true, false}
use mathlib.Core.List.{List, [], ◌∷◌}
use native.Mathlib.Omega.{arith}
use lib.ListN.{length, get_or, drop, drop_of_length-le}
use lib.Dec.{eqb, leb}
use borrow.Author.Tests.{leb-true, ne_eqb}
use Rattle.spec_format.specs.Bytes.{pick, May, absent, is, bytes, some, starts, digit, letter}
use Rattle.spec_format.specs.Table.{LocationRow}
use Rattle.spec_format.specs.Readers.{got, tag}
use Rattle.spec_format.specs.Location.{found, run, past, behind, base_fine, base_number, bases, in_accession, accession, leaf, plain, other, begin, word_row, location_from, location, reading, one, whole}
use Rattle.spec_format.specs.Impossible.{impossible}
use Rattle.spec_location.specs.Bytes.{members_last}
use Rattle.spec_location.specs.Tests.{and_right}
use Rattle.scan_bytes.specs.declared.Step.{Step}
use Rattle.scan_bytes.specs.declared.Step.TheVariants as step
use Rattle.scan_bytes.specs.Views.{Stepped}
use Rattle.scan_bytes.specs.Sequence.{step_is, step_places}
use Rattle.scan_location_bytes.specs.declared.Laid.{Laid}
use Rattle.scan_location_bytes.specs.declared.Laid.TheVariants as laids
use Rattle.scan_location_bytes.specs.declared.Spot.{Spot}
use Rattle.scan_location_bytes.specs.declared.Peek.{Peek}
use Rattle.scan_location_bytes.specs.declared.Peek.TheVariants as peek
use Rattle.scan_location_bytes.specs.Views.{view, Ready, Peeked}
use Rattle.scan_location_bytes.specs.Spots.{spot, drop_more, view_byte, peek_byte, peek_none, run_none, past_none}
use Rattle.scan_location_usual.specs.declared.Run.{Run}
use Rattle.scan_location_usual.specs.declared.Range.{Range}
use Rattle.scan_location_usual.specs.declared.Range.TheVariants as ranges
use Rattle.scan_location_usual.specs.declared.Ranged.TheVariants as rangeds
use Rattle.scan_location_usual.specs.declared.Usual.TheVariants as usuals
use Rattle.scan_location_usual.specs.Usuals.{range_row, Onward, NumberTo, RangeThen, AtRange, RangeTo, RangedAt, Opened, Known}
use Rattle.scan_location_usual.proofs.Numbers.{onward_then}

-- ---- a text that begins with a base number

base_starts : (t z : List ℕ) (n : ℕ) → base_number t ≡ found n z → starts digit t ≡ true
unfolding base_number run
base_starts [] z n e = impossible cc
base_starts (b ∷ t) z n e = go (digit b) refl
  where
    go : (x : Bool) → digit b ≡ x → digit b ≡ true
    go true f = f
    go false f = impossible (cc (run_none digit (b ∷ t) f))

base_past : (t z : List ℕ) (n : ℕ) → base_number t ≡ found n z → past digit t ≡ z
unfolding base_number
base_past t z n e = go (base_fine (run digit t)) refl
  where
    go : (x : Bool) → base_fine (run digit t) ≡ x → past digit t ≡ z
    go true f = cc
    go false f = impossible cc

-- no word that begins above the digits stands there
not_behind : (c : ℕ) (w t : List ℕ) → 57 < c → starts digit t ≡ true → behind (c ∷ w) t ≡ absent
unfolding behind
not_behind c w [] h e = refl
not_behind c w (b ∷ t) h e =
    let u : b ≤ 57 = leb-true b 57 (and_right (leb 48 b) (leb b 57) e) in rw (behind, ne_eqb b c (λ k. omega arith))

digits_other : (t : List ℕ) → starts digit t ≡ true → begin t ≡ other
unfolding begin
digits_other t e =
    rw (not_behind 99 (bytes "omplement(") t (omega arith) e, not_behind 106 (bytes "oin(") t (omega arith) e, not_behind 111 (bytes "rder(") t (omega arith) e)

-- ---- then two dots, and another

abbrev dotted : List ℕ → List ℕ
dotted w = 46 ∷ 46 ∷ w

digit_name : (b : ℕ) → digit b ≡ true → in_accession b ≡ true
digit_name b e = go (letter b) refl
  where
    go : (x : Bool) → letter b ≡ x → in_accession b ≡ true
    go true f = rw f
    go false f = rw (f, e)

name_past : (t : List ℕ) → past in_accession t ≡ past in_accession (past digit t)
unfolding past
name_past [] = refl
name_past (b ∷ t) = go (name_past t) (digit b) refl
  where
    go : past in_accession t ≡ past in_accession (past digit t) → (x : Bool) → digit b ≡ x → past in_accession (b ∷ t) ≡ past in_accession (past digit (b ∷ t))
    go ih true f = let a : in_accession b ≡ true = digit_name b f in rw (past, a, f) ih
    go ih false f = ap (past in_accession) (sym (past_none digit (b ∷ t) f))

pick_absent : (x : Bool) → ◌≡◌ {A = May (List ℕ)} (pick x absent absent) absent
pick_absent true = refl
pick_absent false = refl

-- one dot with no digit behind it is no accession's
no_name : (t w : List ℕ) → past digit t ≡ dotted w → accession t ≡ absent
unfolding accession behind past run
no_name t w e =
    let a : past in_accession t ≡ dotted w = name_past t ∙ ap (past in_accession) e in
    rw a (pick_absent (some (run in_accession t)))

module _ (t w z : List ℕ) (n m : ℕ) (e : base_number t ≡ found n (dotted w)) (f : base_number w ≡ found m z) where
  range_bases : bases 0 0 t ≡ found (range_row n m) z
  unfolding bases behind
  range_bases = rw (not_behind 60 [] t (omega arith) (base_starts t (dotted w) n e), e, not_behind 62 [] w (omega arith) (base_starts w z m f), f)

  range_leaf : (k : ℕ) → leaf k t ≡ found (range_row n m) z
  unfolding leaf
  range_leaf k = rw (no_name t w (base_past t (dotted w) n e)) range_bases

  range_plain : (gaps : Bool) (k : ℕ) → plain gaps k t ≡ found (range_row n m) z
  unfolding plain
  range_plain gaps k = rw (not_behind 103 (bytes "ap(") t (omega arith) (base_starts t (dotted w) n e), pick_absent gaps) (range_leaf k)

  range_then : RangeThen t n m z
  range_then = record { plain = range_plain; begins = digits_other t (base_starts t (dotted w) n e) }

-- ---- in a slice

-- a dot of the text, and then the rest
dot_more : (s : List ℕ) (i : ℕ) → i < length s → get_or s i 0 ≡ 46 → (laid : Laid) → view laid s i ≡ 46 ∷ view laid s (i + 1)
dot_more s i h e laid = (view_byte laid s i h (omega arith)).is ∙ ap (λ (b : ℕ). b ∷ view laid s (i + 1)) e

module _ (s : List ℕ) (at : ℕ) (a : Run) (h : NumberTo s at a) (x : a.value ≡ 0 → ⊥) (room : 2 ≤ length s - a.next) (d : get_or s a.next 0 ≡ 46)
    (d' : get_or s (a.next + 1) 0 ≡ 46) (b : Run) (g : NumberTo s (a.next + 2) b) (y : b.value ≡ 0 → ⊥) where
  dots_are : (laid : Laid) → view laid s a.next ≡ dotted (view laid s (a.next + 2))
  dots_are laid =
      let k : a.next + 1 + 1 ≡ a.next + 2 = omega arith in
      dot_more s a.next (omega arith) d laid ∙ ap (λ (z : List ℕ). 46 ∷ z) (dot_more s (a.next + 1) (omega arith) d' laid ∙ rw k)

  dots_on : Onward s a.next (a.next + 2)
  dots_on = record { long = λ laid. omega (arith, ap length (dots_are laid)); from = omega arith; within = omega arith }

  pub range_stands : RangeTo s at (ranges.Is a.value b.value b.next)
  range_stands =
      record {
        by = record {
          is = λ laid n. range_then (view laid s at) (view laid s (a.next + 2)) (view laid s b.next) a.value b.value
              (h.is laid x (ap (starts digit) (dots_are laid)) ∙ ap (found a.value) (dots_are laid)) (g.is laid y n);
          on = onward_then (onward_then h.on dots_on) g.on;
          up = omega (arith, h.on.from, g.on.from);
        };
      }

pub range_none : (s : List ℕ) (at : ℕ) → RangeTo s at ranges.Other
range_none s at = record { by = tt }

pub dots_within : (s : List ℕ) (at : ℕ) (a : Run) → NumberTo s at a → a.next ≤ length s
dots_within s at a h = h.on.within

pub ruleset ranging = (range_stands, range_none, dots_within)

module _ (s : List ℕ) (at : ℕ) (r : Range) (h : RangeTo s at r) (n m next : ℕ) (e : r ≡ ranges.Is n m next) where
  at_range : AtRange s at n m next
  at_range = rw e at h.by

  pub range_within : next ≤ length s
  range_within = at_range.on.within

  pub range_from_lem : at ≤ next
  range_from_lem = at_range.on.from

-- ---- at a spot

module _ (laid : Laid) (s : List ℕ) (at : ℕ) (r : Peek) (h : Peeked laid s at r) where
  pub follows_byte : (b n : ℕ) → r ≡ peek.Byte b n → (t : Bool) → t ≡ digit b → t ≡ starts digit (view laid s at)
  follows_byte b n e t k = k ∙ sym (ap (starts digit) (peek_byte laid s at r h b n e).is)

  pub follows_end : r ≡ peek.End → false ≡ starts digit (view laid s at)
  follows_end e = sym (ap (starts digit) (peek_none laid s at r h e))

pub ruleset following = (follows_byte, follows_end)

module _ (laid : Laid) (s : List ℕ) (p : Spot) (g : Ready laid s p) (r : Range) (h : RangeTo s p.at r) (n m next : ℕ) (e : r ≡ ranges.Is n m next) where
  pub spot_fits : p.off + (next - p.at) < 2 ^ 64
  spot_fits = let a = at_range s p.at r h n m next e in omega (arith, g.below, g.short, a.on.from, a.on.within)

  pub spot_ranged : (t : Bool) → t ≡ starts digit (view laid s next) → t ≡ false → RangedAt laid s p (rangeds.Is n m (spot next (p.off + (next - p.at))))
  spot_ranged t k f =
      let a = at_range s p.at r h n m next e in
      let l = a.on.long laid in
      let u = a.up in
      record {
        by = record {
          is = a.is laid (sym k ∙ f);
          past = record { up = u; within = a.on.within; ahead = omega arith; below = omega (arith, g.below); less = omega arith; total = omega arith };
        };
      }

pub spot_other : (laid : Laid) (s : List ℕ) (p : Spot) → RangedAt laid s p rangeds.Other
spot_other laid s p = record { by = tt }

pub ruleset spotting = (range_within, range_from_lem, spot_fits, spot_ranged, spot_other)

-- ---- a whole text

abbrev rows : ℕ → ℕ → List LocationRow
rows n m = range_row n m ∷ []

location_is : (t z : List ℕ) (n m : ℕ) → RangeThen t n m z → (gaps : Bool) (k left : ℕ) → location gaps k left t ≡ found (rows n m) z
unfolding location_from
location_is t z n m h gaps k zero = rw (h.begins, h.plain gaps k)
location_is t z n m h gaps k (suc left) = rw (h.begins, h.plain gaps k)

tag_behind : (w s r : List ℕ) → tag w s ≡ got tt r → behind w s ≡ is r
unfolding tag behind
tag_behind [] s r e = cc
tag_behind (c ∷ w) [] r e = impossible cc
tag_behind (c ∷ w) (b ∷ s) r e = go (tag_behind w s r) (eqb b c) refl
  where
    go : (tag w s ≡ got tt r → behind w s ≡ is r) → (x : Bool) → eqb b c ≡ x → behind (c ∷ w) (b ∷ s) ≡ is r
    go ih true f = rw (behind, f) (ih (cc))
    go ih false f = impossible cc

-- behind the word: a range and the bracket that closes
word_is : (t r : List ℕ) (n m : ℕ) → behind (bytes "complement(") t ≡ is r → RangeThen r n m (41 ∷ []) → (gaps : Bool) → reading gaps t ≡ one (range_row n m ∷ word_row 4 1 ∷ [])
unfolding reading begin location_from behind
word_is t r n m e h gaps =
    rw (e, members_last (length r) 4 (location gaps (length t) 15) r (rows n m) (41 ∷ []) (location_is r (41 ∷ []) n m h gaps (length t) 15) refl)

module _ (s : List ℕ) (at : ℕ) (r : Range) (h : RangeTo s at r) (n m next : ℕ) (e : r ≡ ranges.Is n m next) where
  pub known_complement : Opened s at → (room : length s - next ≡ 1) → get_or s next 0 ≡ 41 → Known s (usuals.Complement n m)
  known_complement o room d =
      let w = range_within s at r h n m next e in
      let l : length s ≤ next + 1 = omega arith in
      let k : drop (next + 1) s ≡ [] = drop_of_length-le s l in
      let z : drop next s ≡ 41 ∷ [] = drop_more s next (omega arith) ∙ rw (d, k) in
      record { by = word_is s (drop at s) n m (tag_behind (bytes "complement(") s (drop at s) o.is) (rw z at ((at_range s at r h n m next e).is laids.Piece (ap (starts digit) z))) }

pub known_range : (s : List ℕ) (r : Range) → RangeTo s 0 r → (n m next : ℕ) → r ≡ ranges.Is n m next → length s ≤ next → Known s (usuals.Range n m)
unfolding reading
known_range s r h n m next e l =
    let z : drop next s ≡ [] = drop_of_length-le s l in
    let a : RangeThen s n m [] = rw z at ((at_range s 0 r h n m next e).is laids.Piece (ap (starts digit) z)) in
    record { by = λ gaps. ap whole (location_is s [] n m a gaps (length s) 16) }

pub known_none : (s : List ℕ) → Known s usuals.Other
known_none s = record { by = tt }

pub opened : (s : List ℕ) (r : Step) → Stepped s 0 (tag (bytes "complement(") s) r → (at : ℕ) → r ≡ step.Got at → Opened s at
opened s r h at e = record { is = step_is h e; within = (step_places h e).1 }

pub ruleset knowing = (range_within, known_complement, known_range, known_none, opened)
