-- The cycle, law by law, in the form in which the goals have their facts. Assumes nothing.
use Prim.Native.Nat.{ℕ, zero, suc, ◌+◌, ◌-◌, ◌≤◌, ◌<◌}
use native.Mathlib.Nat.{suc-sub-suc, sub-zero}
use native.Mathlib.Omega.{arith}
use mathlib.Core.Path.{◌≡◌, refl, sym, ap, ◌∙◌}
use mathlib.Core.Bool.{Bool}
use mathlib.Core.List.{List, [], ◌∷◌, ◌++◌, append_assoc}
use lib.ListN.{length, length-append}
use borrow.Author.Tests.{ne_eqb}
use Rattle.spec_format.specs.Bytes.{absent, is}
use Rattle.spec_format.specs.Table.{LocationRow}
use Rattle.spec_format.specs.Location.{Found, found, fault, deep, behind, word, other, begin, word_row, closed_by, closed, ahead, comma_in, members_in, single, plain, location_from, location}
use Rattle.spec_location.specs.Bytes.{members_more, members_last}
use Rattle.scan_location_bytes.specs.declared.Laid.{Laid}
use Rattle.scan_location_bytes.specs.declared.Spot.{Spot}
use Rattle.scan_location_bytes.specs.declared.Word.{Word}
use Rattle.scan_location_bytes.specs.declared.Word.TheVariants as words
use Rattle.scan_location_bytes.specs.Views.{view, total, Onto, Reached}
use Rattle.scan_location_bytes.specs.Spots.{past_past, onto_past, onto_here, word_past, word_absent}
use Rattle.scan_location.specs.declared.Row.{Row}
use Rattle.scan_location.specs.declared.Plain.{Plain}
use Rattle.scan_location.specs.declared.Plain.TheVariants as plains
use Rattle.scan_location.specs.declared.Begun.{Begun}
use Rattle.scan_location.specs.declared.Begun.TheVariants as begun
use Rattle.scan_location.specs.Views.{row_of, AtPlain, Plained, AtBegun, Begins}
use Rattle.scan_location_usual.specs.declared.Ranged.{Ranged}
use Rattle.scan_location_usual.specs.declared.Ranged.TheVariants as rangeds
use Rattle.scan_location_usual.specs.Usuals.{range_row, AtRanged, RangedAt}
use Rattle.read_location_row.specs.declared.Pen.{Pen}
use Rattle.read_location.specs.declared.RowsAt.{RowsAt}
use Rattle.read_location.specs.declared.RowsAt.TheVariants as rows_at
use Rattle.read_location_row.specs.Rows.{Noted, rows_append, rows_none}
use Rattle.read_location.specs.Reads.{Stands, AtGot, LocatedIs, Located, Closes}
use Rattle.read_location.proofs.Spots.{past_over, stands_past, got_behind, located_from, located_behind, located_ready}

-- ---- a location of one row
module _ (o : Found LocationRow) (laid : Laid) (s : List ℕ) (p : Spot) (z : Plain) (h : Plained laid s p o z) where
  pub plain_row : (row : Row) (q : Spot) → z ≡ plains.Row row q → (seen old : List ℕ) (pen : Pen) (new : List ℕ) (to : Pen) → Noted seen old pen (row_of row ∷ []) new to
      → Located (single o) laid s seen old p pen new (rows_at.Got q to)
  plain_row row q e seen old pen new to n =
      let a : AtPlain laid s p o row q = rw e at h.by in
      record { by = record { rows = row_of row ∷ []; is = ap single a.is; noted = n; past = a.past; few = omega (arith, a.past.ahead) } }

  pub plain_fault : z ≡ plains.Fault → (seen old : List ℕ) (pen : Pen) (new : List ℕ) → Located (single o) laid s seen old p pen new rows_at.Fault
  plain_fault e seen old pen new = let a : o ≡ fault = rw e at h.by in record { by = ap single a }

pub ruleset plainly = (plain_row, plain_fault)

-- mostly a range
pub range_row_lem : (laid : Laid) (s : List ℕ) (p : Spot) (z : Ranged) → RangedAt laid s p z → (n m : ℕ) (q : Spot) → z ≡ rangeds.Is n m q → (gaps : Bool) (k : ℕ) (seen old : List ℕ) (pen : Pen) (new : List ℕ) (to : Pen)
    → Noted seen old pen (range_row n m ∷ []) new to → Located (single (plain gaps k (view laid s p.at))) laid s seen old p pen new (rows_at.Got q to)
range_row_lem laid s p z h n m q e gaps k seen old pen new to w =
    let a : AtRanged laid s p n m q = rw e at h.by in
    record { by = record { rows = range_row n m ∷ []; is = ap single (a.is.plain gaps k); noted = w; past = a.past; few = omega (arith, a.past.ahead) } }

-- ---- a comma, a bracket
pub comma_some : (laid : Laid) (s : List ℕ) (p : Spot) (form : ℕ) → (form ≡ 4 → ⊥) → (r : Word) → Reached laid s p (behind (44 ∷ []) (view laid s p.at)) r
    → Reached laid s p (comma_in form (view laid s p.at)) r
comma_some laid s p form h r g = rw (ne_eqb _ _ h) g

module _ (form first : ℕ) (laid : Laid) (s seen mid new : List ℕ) (r : RowsAt) where
  pub close_past : (q : Spot) (to : Pen) → r ≡ rows_at.Got q to → (w : Word) → Reached laid s q (behind (41 ∷ []) (view laid s q.at)) w → (z : Spot) → w ≡ words.Past z → (n : Pen)
      → Noted seen mid to (word_row form (to.row - first) ∷ []) new n → Closes form first laid s seen mid new r (rows_at.Got z n)
  close_past q to e w h z f n put =
      record {
        by = λ o old p pen at l.
            let a : AtGot o laid s seen old p pen mid q to = rw e at l.by in
            let b = word_past laid s _ _ w h z f in
            let many : to.row - first ≡ length a.rows = omega (arith, a.noted.row, at) in
            record {
              by = record {
                rows = a.rows ++ (word_row form (length a.rows) ∷ []);
                is = ap (closed form) a.is ∙ ap (closed_by form a.rows) b.is;
                noted = rows_append a.noted (rw many at put);
                past = past_past a.past b.past;
                few = omega (arith, length-append a.rows (word_row form (length a.rows) ∷ []), a.few, b.past.ahead);
              };
            };
      }

  pub close_other : (q : Spot) (to : Pen) → r ≡ rows_at.Got q to → (w : Word) → Reached laid s q (behind (41 ∷ []) (view laid s q.at)) w → w ≡ words.Other
      → Closes form first laid s seen mid new r rows_at.Fault
  close_other q to e w h f =
      record {
        by = λ o old p pen at l.
            let a : AtGot o laid s seen old p pen mid q to = rw e at l.by in
            record { by = ap (closed form) a.is ∙ ap (closed_by form a.rows) (word_absent laid s _ _ w h f) };
      }

  pub close_fault : r ≡ rows_at.Fault → Closes form first laid s seen mid new r rows_at.Fault
  close_fault e = record { by = λ o old p pen at l. let a : o ≡ fault = rw e at l.by in record { by = ap (closed form) a } }

  pub close_deep : r ≡ rows_at.Deep → Closes form first laid s seen mid new r rows_at.Deep
  close_deep e = record { by = λ o old p pen at l. let a : o ≡ deep = rw e at l.by in record { by = ap (closed form) a } }

pub ruleset closing = (close_past, close_other, close_fault, close_deep)

-- ---- one level, whatever is left
less_one : (k : ℕ) → k ≡ suc k - 1
less_one k = sym (suc-sub-suc k 0 ∙ sub-zero k)

module _ (gaps : Bool) (n : ℕ) where
  from_other : (left : ℕ) (t : List ℕ) → location_from gaps n left other t ≡ single (plain gaps n t)
  unfolding location_from
  from_other zero t = refl
  from_other (suc left) t = refl

  from_word : (left form : ℕ) (r t : List ℕ) → (left ≡ 0 → ⊥) → location_from gaps n left (word form r) t ≡ closed form (members_in (suc (length r)) form (location gaps n (left - 1)) r)
  unfolding location_from
  from_word zero form r t h = absurd (h refl)
  from_word (suc k) form r t h = ap (λ (m : ℕ). closed form (members_in (suc (length r)) form (location gaps n m) r)) (less_one k)

  from_none : (left form : ℕ) (r t : List ℕ) → left ≡ 0 → location_from gaps n left (word form r) t ≡ deep
  unfolding location_from
  from_none left form r t e = rw e

  -- a word's text before its bracket is not looked at again
  from_inside : (left form : ℕ) (r t : List ℕ) → location_from gaps n left (word form r) t ≡ location_from gaps n left (word form r) []
  unfolding location_from
  from_inside zero form r t = refl
  from_inside (suc k) form r t = refl

-- ---- location_in
module _ (gaps : Bool) (laid : Laid) (s : List ℕ) (p : Spot) (z : Begun) (h : Begins laid s p (begin (view laid s p.at)) z) where
  pub loc_word : (form : ℕ) (q : Spot) → z ≡ begun.Word form q → (left : ℕ) (seen old : List ℕ) (pen : Pen) (new : List ℕ) (r : RowsAt)
      → Located (location_from gaps (total laid s q) left (word form (view laid s q.at)) []) laid s seen old q pen new r
      → Located (location gaps (total laid s p) left (view laid s p.at)) laid s seen old p pen new r
  loc_word form q e left seen old pen new r l =
      let a : AtBegun laid s p (begin (view laid s p.at)) form q = rw e at h.by in
      rw (a.is, ← a.past.total, from_inside gaps (total laid s q) left form (view laid s q.at) (view laid s p.at)) (located_from r a.past l)

  pub loc_plain : z ≡ begun.Other → (left : ℕ) (seen old : List ℕ) (pen : Pen) (new : List ℕ) (r : RowsAt)
      → Located (single (plain gaps (total laid s p) (view laid s p.at))) laid s seen old p pen new r → Located (location gaps (total laid s p) left (view laid s p.at)) laid s seen old p pen new r
  loc_plain e left seen old pen new r l =
      let a : begin (view laid s p.at) ≡ other = rw e at h.by in rw (a, from_other gaps (total laid s p) left (view laid s p.at)) l

  pub stands_word : (form : ℕ) (q : Spot) → z ≡ begun.Word form q → (pen : Pen) → Stands laid s p pen → Stands laid s q pen
  stands_word form q e pen g = let a : AtBegun laid s p (begin (view laid s p.at)) form q = rw e at h.by in stands_past g a.past

-- ---- word_in
module _ (gaps : Bool) (laid : Laid) (s : List ℕ) (p : Spot) (left form : ℕ) (seen old : List ℕ) (pen : Pen) where
  pub word_deep : (new : List ℕ) → left ≡ 0 → Located (location_from gaps (total laid s p) left (word form (view laid s p.at)) []) laid s seen old p pen new rows_at.Deep
  word_deep new e = record { by = from_none gaps (total laid s p) left form (view laid s p.at) [] e }

  pub word_read : (left ≡ 0 → ⊥) → (mid : List ℕ) (r : RowsAt)
      → Located (members_in (suc (length (view laid s p.at))) form (location gaps (total laid s p) (left - 1)) (view laid s p.at)) laid s seen old p pen mid r
      → (new : List ℕ) (t : RowsAt) → Closes form pen.row laid s seen mid new r t
      → Located (location_from gaps (total laid s p) left (word form (view laid s p.at)) []) laid s seen old p pen new t
  word_read some mid r l new t k = rw (from_word gaps (total laid s p) left form (view laid s p.at) [] some) (k.by _ old p pen refl l)

-- ---- members_in: the answer of the whole is the answer from here, behind the rows so far
pub record Going (o : Found (List LocationRow)) (gaps : Bool) (left form : ℕ) (laid : Laid) (s seen old : List ℕ) (p : Spot) (pen : Pen) (new : List ℕ) (q : Spot) (to : Pen) : Type 0 where
  pub fuel : ℕ
  pub rows : List LocationRow
  pub is : o ≡ ahead rows (members_in fuel form (location gaps (total laid s p) left) (view laid s q.at))
  pub enough : length (view laid s q.at) < fuel
  pub noted : Noted seen old pen rows new to
  pub onto : Onto laid s p q
  pub few : length rows + p.off ≤ q.off
  pub stands : Stands laid s q to

ahead_none : (w : Found (List LocationRow)) → w ≡ ahead [] w
ahead_none (found x s) = refl
ahead_none fault = refl
ahead_none deep = refl

ahead_ahead : (x y : List LocationRow) (w : Found (List LocationRow)) → ahead x (ahead y w) ≡ ahead (x ++ y) w
ahead_ahead x y (found z s) = rw append_assoc
ahead_ahead x y fault = refl
ahead_ahead x y deep = refl

pub go_start : (gaps : Bool) (left form : ℕ) (laid : Laid) (s seen old : List ℕ) (p : Spot) (pen : Pen) → Stands laid s p pen
    → Going (members_in (suc (length (view laid s p.at))) form (location gaps (total laid s p) left) (view laid s p.at)) gaps left form laid s seen old p pen old p pen
go_start gaps left form laid s seen old p pen g =
    record {
      fuel = suc (length (view laid s p.at));
      rows = [];
      is = ahead_none (members_in (suc (length (view laid s p.at))) form (location gaps (total laid s p) left) (view laid s p.at));
      enough = omega arith;
      noted = rows_none seen old pen;
      onto = onto_here laid s p g.ready;
      few = omega arith;
      stands = g;
    }

-- a turn, with the fuel in view
module _ (form : ℕ) (read : List ℕ → Found (List LocationRow)) (t : List ℕ) where
  turn_more : (fuel : ℕ) (rows : List LocationRow) (r z : List ℕ) → length t < fuel → read t ≡ found rows r → comma_in form r ≡ is z
      → members_in fuel form read t ≡ ahead rows (members_in (fuel - 1) form read z)
  turn_more zero rows r z h e f = absurd (omega (arith, h))
  turn_more (suc k) rows r z h e f = members_more k form read t rows r z e f ∙ ap (λ (m : ℕ). ahead rows (members_in m form read z)) (less_one k)

  turn_last : (fuel : ℕ) (rows : List LocationRow) (r : List ℕ) → length t < fuel → read t ≡ found rows r → comma_in form r ≡ absent → members_in fuel form read t ≡ found rows r
  turn_last zero rows r h e f = absurd (omega (arith, h))
  turn_last (suc k) rows r h e f = members_last k form read t rows r e f

  turn_fault : (fuel : ℕ) → length t < fuel → read t ≡ fault → members_in fuel form read t ≡ fault
  unfolding members_in
  turn_fault zero h e = absurd (omega (arith, h))
  turn_fault (suc k) h e = rw e

  turn_deep : (fuel : ℕ) → length t < fuel → read t ≡ deep → members_in fuel form read t ≡ deep
  unfolding members_in
  turn_deep zero h e = absurd (omega (arith, h))
  turn_deep (suc k) h e = rw e

module _ (o : Found (List LocationRow)) (gaps : Bool) (left form : ℕ) (laid : Laid) (s seen old : List ℕ) (p : Spot) (pen : Pen) (mid : List ℕ) (q : Spot) (to : Pen)
    (g : Going o gaps left form laid s seen old p pen mid q to) (new : List ℕ) (r : RowsAt)
    (l : Located (location gaps (total laid s q) left (view laid s q.at)) laid s seen mid q to new r) where
  here : LocatedIs (location gaps (total laid s p) left (view laid s q.at)) laid s seen mid q to new r
  here = rw g.onto.total at l.by

  pub go_fault : r ≡ rows_at.Fault → Located o laid s seen old p pen new rows_at.Fault
  go_fault e =
      let a : location gaps (total laid s p) left (view laid s q.at) ≡ fault = rw e at here in
      record { by = g.is ∙ ap (ahead g.rows) (turn_fault form (location gaps (total laid s p) left) (view laid s q.at) g.fuel g.enough a) }

  pub go_deep : r ≡ rows_at.Deep → Located o laid s seen old p pen new rows_at.Deep
  go_deep e =
      let a : location gaps (total laid s p) left (view laid s q.at) ≡ deep = rw e at here in
      record { by = g.is ∙ ap (ahead g.rows) (turn_deep form (location gaps (total laid s p) left) (view laid s q.at) g.fuel g.enough a) }

  module _ (x : Spot) (y : Pen) (e : r ≡ rows_at.Got x y) where
    got : AtGot (location gaps (total laid s p) left (view laid s q.at)) laid s seen mid q to new x y
    got = rw e at here

    module _ (w : Word) (h : Reached laid s x (comma_in form (view laid s x.at)) w) where
      pub go_last : w ≡ words.Other → Located o laid s seen old p pen new (rows_at.Got x y)
      go_last f =
          record {
            by = record {
              rows = g.rows ++ got.rows;
              is = g.is ∙ ap (ahead g.rows) (turn_last form (location gaps (total laid s p) left) (view laid s q.at) g.fuel got.rows (view laid s x.at) g.enough got.is (word_absent laid s _ _ w h f));
              noted = rows_append g.noted got.noted;
              past = onto_past g.onto got.past;
              few = omega (arith, length-append g.rows got.rows, g.few, got.few);
            };
          }

      pub go_more : (z : Spot) → w ≡ words.Past z → Going o gaps left form laid s seen old p pen new z y
      go_more z f =
          let a = word_past laid s _ _ w h z f in
          record {
            fuel = g.fuel - 1;
            rows = g.rows ++ got.rows;
            is = g.is ∙ ap (ahead g.rows) (turn_more form (location gaps (total laid s p) left) (view laid s q.at) g.fuel got.rows (view laid s x.at) (view laid s z.at) g.enough got.is a.is)
                ∙ ahead_ahead g.rows got.rows (members_in (g.fuel - 1) form (location gaps (total laid s p) left) (view laid s z.at));
            enough = omega (arith, g.enough, got.past.less, a.past.less);
            noted = rows_append g.noted got.noted;
            onto = past_over (past_past (onto_past g.onto got.past) a.past);
            few = omega (arith, length-append g.rows got.rows, g.few, got.few, a.past.ahead);
            stands = stands_past (got_behind g.stands got).stands a.past;
          }

      pub go_less : (z : Spot) → w ≡ words.Past z → length s - z.at < length s - q.at
      go_less z f = let a = word_past laid s _ _ w h z f in omega (arith, got.past.up, a.past.up, a.past.within)

pub ruleset cycle = (located_behind, loc_word, loc_plain, stands_word, word_deep, word_read, go_start, go_fault, go_deep, located_ready, go_last, go_more, go_less)
