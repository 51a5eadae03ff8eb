-- Short names for the contracts of the entry points: all rooms that a call is lent, as they are at entry, and as they are at exit.
use Rattle.std.specs.Prelude.{ℕ, List}
use Rattle.spec_format.specs.Rooms.{Rooms, rooms_in}
use Rattle.base_rows.specs.declared.Feature.{Feature}
use Rattle.base_rows.specs.Rows.{flat}

-- what a lent slice of bytes or numbers holds at one moment, and one of feature rows
abbrev pub Slice : Type 0
Slice = List ℕ

abbrev pub Rows : Type 0
Rows = List Feature

-- of what they hold at entry
abbrev pub lent : Slice → Slice → Slice → Rows → Slice → Slice → Slice → Rooms
lent texts references comments rows qualifiers locations letters = rooms_in texts references comments (flat rows) qualifiers locations letters

-- of what they hold at exit
abbrev pub left : Slice → Slice → Slice → Rows → Slice → Slice → Slice → Rooms
left texts references comments rows qualifiers locations letters = rooms_in texts references comments (flat rows) qualifiers locations letters
