-- From spot to spot, and what is known of a spot behind what was read. Assumes nothing.
use Prim.Native.Nat.{ℕ, ◌≤◌}
use mathlib.Core.Path.{◌≡◌}
use mathlib.Core.List.{List}
use native.Mathlib.Omega.{arith}
use lib.ListN.{length}
use Rattle.spec_format.specs.Table.{LocationRow}
use Rattle.spec_format.specs.Location.{Found}
use Rattle.scan_location_bytes.specs.declared.Laid.{Laid}
use Rattle.scan_location_bytes.specs.declared.Spot.{Spot}
use Rattle.scan_location_bytes.specs.Views.{Ready, Past, Onto}
use Rattle.scan_location_bytes.specs.Spots.{past_past, past_ready}
use Rattle.read_location_row.specs.declared.Pen.{Pen}
use Rattle.read_location.specs.declared.RowsAt.{RowsAt}
use Rattle.read_location.specs.declared.RowsAt.TheVariants as rows_at
use Rattle.read_location.specs.Reads.{Stands, AtGot, Located, Behind, Closable}

module _ {laid : Laid} {s : List ℕ} where
  pub past_over : {a b : Spot} → Past laid s a b → Onto laid s a b
  past_over p = record { up = omega arith; within = p.within; ahead = omega arith; below = p.below; total = p.total }

  pub stands_past : {p q : Spot} {pen : Pen} → Stands laid s p pen → Past laid s p q → Stands laid s q pen
  stands_past g p =
      record { ready = past_ready g.ready p; room = omega (arith, g.room, p.ahead) }

  pub got_behind : {o : Found (List LocationRow)} {seen old new : List ℕ} {p q : Spot} {pen to : Pen} → Stands laid s p pen → AtGot o laid s seen old p pen new q to
      → Behind laid s pen.row q to
  got_behind g a =
      record {
        stands = record {
          ready = past_ready g.ready a.past;
          room = omega (arith, g.room, a.noted.row, a.few);
        };
        from = omega (arith, a.noted.row);
      }

-- the same of whatever was answered
pub located_behind : (o : Found (List LocationRow)) (laid : Laid) (s seen old : List ℕ) (p : Spot) (pen : Pen) (new : List ℕ) (r : RowsAt) → Stands laid s p pen
    → Located o laid s seen old p pen new r → Closable laid s pen.row r
located_behind o laid s seen old p pen new (rows_at.Got q to) g l = got_behind g l.by
located_behind o laid s seen old p pen new rows_at.Fault g l = tt
located_behind o laid s seen old p pen new rows_at.Deep g l = tt

-- from an earlier spot
pub located_from : {o : Found (List LocationRow)} {laid : Laid} {s seen old new : List ℕ} {p q : Spot} {pen : Pen} (r : RowsAt) → Past laid s p q
    → Located o laid s seen old q pen new r → Located o laid s seen old p pen new r
located_from (rows_at.Got z to) g l =
    let a = l.by in record { by = record { rows = a.rows; is = a.is; noted = a.noted; past = past_past g a.past; few = omega (arith, a.few, g.ahead) } }
located_from rows_at.Fault g l = record { by = l.by }
located_from rows_at.Deep g l = record { by = l.by }

-- what that says where rows were read
module _ (laid : Laid) (s : List ℕ) (first : ℕ) (r : RowsAt) (h : Closable laid s first r) (q : Spot) (to : Pen) (e : r ≡ rows_at.Got q to) where
  behind : Behind laid s first q to
  behind = rw e at h

  pub behind_ready : Ready laid s q
  behind_ready = behind.stands.ready

  pub behind_within : q.at ≤ length s
  behind_within = behind.stands.ready.within

  pub behind_from : first ≤ to.row
  behind_from = behind.from

  pub behind_room : to.row ≤ 100000000
  behind_room = let b = behind in omega (arith, b.stands.room, b.stands.ready.below, b.stands.ready.within, b.stands.ready.short)

pub ruleset behinds = (behind_ready, behind_within, behind_from, behind_room)

-- whatever was read from a spot, the spot behind it can be read from
pub located_ready : (o : Found (List LocationRow)) (laid : Laid) (s seen old : List ℕ) (p : Spot) (pen : Pen) (new : List ℕ) (r : RowsAt) → Located o laid s seen old p pen new r → length s ≤ 16777216
    → (q : Spot) (to : Pen) → r ≡ rows_at.Got q to → Ready laid s q
located_ready o laid s seen old p pen new r l g q to e =
    let a : AtGot o laid s seen old p pen new q to = rw e at l.by in record { within = a.past.within; short = g; below = a.past.below }
