-- The whole text. Assumes nothing.
use Prim.Native.Nat.{ℕ, ◌-◌, ◌*◌, ◌≤◌}
use native.Mathlib.Nat.{zero-add}
use native.Mathlib.Omega.{arith}
use mathlib.Core.Path.{◌≡◌, refl, sym, ap, ◌∙◌}
use mathlib.Core.Bool.{Bool, true}
use mathlib.Core.List.{List, [], ◌∷◌}
use lib.ListN.{length, take, drop}
use Rattle.spec_format.specs.Bytes.{same}
use Rattle.spec_format.specs.Table.{LocationRow}
use Rattle.spec_format.specs.Rooms.{location_numbers}
use Rattle.spec_format.specs.Location.{Found, found, fault, deep, location, Reading, one, none, too_deep, whole, word_row, reading}
use Rattle.scan_location_usual.specs.declared.Usual.{Usual}
use Rattle.scan_location_usual.specs.declared.Usual.TheVariants as usuals
use Rattle.scan_location_usual.specs.Usuals.{range_row, Known}
use Rattle.scan_location_bytes.specs.declared.Laid.{Laid}
use Rattle.scan_location_bytes.specs.declared.Spot.{Spot}
use Rattle.scan_location_bytes.specs.declared.Peek.{Peek}
use Rattle.scan_location_bytes.specs.declared.Peek.TheVariants as peek
use Rattle.scan_location_bytes.specs.Views.{view, total, Peeked}
use Rattle.scan_location_bytes.specs.Spots.{spot, peek_byte, peek_none}
use Rattle.read_location_row.specs.declared.Pen.{Pen}
use Rattle.read_location.specs.declared.RowsAt.{RowsAt}
use Rattle.read_location.specs.declared.RowsAt.TheVariants as rows_at
use Rattle.read_location.specs.declared.Location.{Location}
use Rattle.read_location.specs.declared.Location.TheVariants as locations
use Rattle.read_location_row.specs.Rows.{Noted, numbers_length, rows_append}
use Rattle.read_location.proofs.Spots.{located_behind}
use Rattle.read_location.specs.Reads.{starting, Stands, AtGot, Located, Closable, location_of, Answered, Ends}

-- ---- the answers
answer_none : {x : Reading} {seen old new : List ℕ} {first : ℕ} → x ≡ none → Answered x seen old first new locations.None
answer_none {seen = seen} {first = first} e =
    record { is = sym (ap (location_of seen first) e); put = λ ls f. let z : ◌≡◌ {A = ℕ} 0 1 = cc in absurd (omega arith) }

answer_deep : {x : Reading} {seen old new : List ℕ} {first : ℕ} → x ≡ too_deep → Answered x seen old first new locations.TooDeep
answer_deep {seen = seen} {first = first} e =
    record { is = sym (ap (location_of seen first) e); put = λ ls f. let z : ◌≡◌ {A = ℕ} 0 1 = cc in absurd (omega arith) }

answer_read : {x : Reading} {seen old new : List ℕ} {pen to : Pen} {rows : List LocationRow} → x ≡ one rows → pen.same ≡ true → Noted seen old pen rows new to
    → Answered x seen old pen.row new (locations.Read (to.row - pen.row) to.same)
answer_read {seen = seen} {old = old} {new = new} {pen = pen} {to = to} {rows = rows} e f n =
    let many : to.row - pen.row ≡ length rows = omega (arith, n.row) in
    let so : to.same ≡ same (location_numbers rows) (take (7 * length rows) (drop (7 * pen.row) seen)) = n.same ∙ rw (f, numbers_length) in
    record {
      is = rw (many, so) (sym (ap (location_of seen pen.row) e));
      put = λ ls g. let z : rows ≡ ls = cc in rw z at n.put;
    }

module _ (laid : Laid) (s : List ℕ) (first : ℕ) (r : RowsAt) where
  pub end_read : (q : Spot) (to : Pen) → r ≡ rows_at.Got q to → (z : Peek) → Peeked laid s q.at z → z ≡ peek.End → Ends laid s first r (locations.Read (to.row - first) to.same)
  end_read q to e z h f =
      record {
        by = λ o seen old p new l.
            let a : AtGot o laid s seen old p (starting first) new q to = rw e at l.by in
            let b = peek_none laid s _ z h f in answer_read (ap whole (a.is ∙ ap (found a.rows) b)) refl a.noted;
      }

  pub end_more : (q : Spot) (to : Pen) → r ≡ rows_at.Got q to → (z : Peek) → Peeked laid s q.at z → (b next : ℕ) → z ≡ peek.Byte b next → Ends laid s first r locations.None
  end_more q to e z h b next f =
      record {
        by = λ o seen old p new l.
            let a : AtGot o laid s seen old p (starting first) new q to = rw e at l.by in
            let g = peek_byte laid s _ z h b next f in answer_none (ap whole (a.is ∙ ap (found a.rows) g.is));
      }

  pub end_fault : r ≡ rows_at.Fault → Ends laid s first r locations.None
  end_fault e = record { by = λ o seen old p new l. let a : o ≡ fault = rw e at l.by in answer_none (ap whole a) }

  pub end_deep : r ≡ rows_at.Deep → Ends laid s first r locations.TooDeep
  end_deep e = record { by = λ o seen old p new l. let a : o ≡ deep = rw e at l.by in answer_deep (ap whole a) }

pub ruleset ending = (end_read, end_more, end_fault, end_deep)

-- ---- the entry
pub first_stands : (laid : Laid) (s : List ℕ) (at first : ℕ) → at ≤ length s → length s ≤ 16777216 → first ≤ 16777216
    → Stands laid s (spot at 0) (starting first)
first_stands laid s at first h g f =
    record { ready = record { within = h; short = g; below = omega arith }; room = omega arith }

pub first_behind : (o : Found (List LocationRow)) (laid : Laid) (s seen old : List ℕ) (at first : ℕ) (new : List ℕ) (r : RowsAt) → at ≤ length s → length s ≤ 16777216 → first ≤ 16777216
    → Located o laid s seen old (spot at 0) (starting first) new r → Closable laid s first r
first_behind o laid s seen old at first new r h g f l =
    located_behind o laid s seen old (spot at 0) (starting first) new r (first_stands laid s at first h g f) l

pub first_answered : (gaps : Bool) (laid : Laid) (s seen old : List ℕ) (at first : ℕ) (new : List ℕ) (r : RowsAt)
    → Located (location gaps (total laid s (spot at 0)) 16 (view laid s at)) laid s seen old (spot at 0) (starting first) new r
    → (t : Location) → Ends laid s first r t → Answered (reading gaps (view laid s at)) seen old first new t
unfolding reading
first_answered gaps laid s seen old at first new r l t k =
    rw zero-add at (k.by (location gaps (total laid s (spot at 0)) 16 (view laid s at)) seen old (spot at 0) new l)

pub ruleset entering = (first_stands, first_behind, first_answered)

-- ---- a text in one piece that is a range or its complement
module _ (s seen old : List ℕ) (first : ℕ) (new : List ℕ) (u : Usual) (h : Known s u) (n m : ℕ) (to : Pen) (gaps : Bool) where
  pub usual_range : u ≡ usuals.Range n m → Noted seen old (starting first) (range_row n m ∷ []) new to → Answered (reading gaps s) seen old first new (locations.Read 1 to.same)
  usual_range e k =
      let a : (g : Bool) → reading g s ≡ one (range_row n m ∷ []) = rw e at h.by in
      let r : to.row - first ≡ 1 = omega (arith, k.row) in
      rw r at (answer_read {pen = starting first} (a gaps) refl k)

  pub usual_complement : u ≡ usuals.Complement n m → Noted seen old (starting first) (range_row n m ∷ word_row 4 1 ∷ []) new to
      → Answered (reading gaps s) seen old first new (locations.Read 2 to.same)
  usual_complement e k =
      let a : (g : Bool) → reading g s ≡ one (range_row n m ∷ word_row 4 1 ∷ []) = rw e at h.by in
      let r : to.row - first ≡ 2 = omega (arith, k.row) in
      rw r at (answer_read {pen = starting first} (a gaps) refl k)

pub row_behind : (seen old mid new : List ℕ) (p q r : Pen) (a b : LocationRow) → Noted seen old p (a ∷ []) mid q → Noted seen mid q (b ∷ []) new r
    → Noted seen old p (a ∷ b ∷ []) new r
row_behind seen old mid new p q r a b f g = rows_append f g

pub row_next : (seen old new : List ℕ) (p q : Pen) (a : LocationRow) → Noted seen old p (a ∷ []) new q → p.row ≤ 16777216 → q.row ≤ 100000000
row_next seen old new p q a h l = omega (arith, h.row)

pub ruleset usually = (usual_range, usual_complement, row_behind, row_next)
