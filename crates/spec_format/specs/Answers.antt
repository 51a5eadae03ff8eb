-- What the writers answer and leave in the slice that they write to. "Writer: 12, 10, 11, 13, 6."
use Rattle.std.specs.Prelude.{ℕ, Bool, true, List, length, leb}
use Rattle.spec_format.specs.Bytes.{pick}
use Rattle.spec_format.specs.Write.{written}
use Rattle.spec_format.specs.WellFormed.{width_fine, well_formed}
use Rattle.spec_format.specs.Keeping.{keeps}
use Rattle.spec_format.specs.Rooms.{Rooms, table_of, rooms_fine, over}
use Rattle.spec_format.specs.declared.Head.{Head}
use Rattle.spec_format.specs.declared.Unwritten.TheVariants as unwritten
use Rattle.spec_format.specs.declared.WriteAnswer.{WriteAnswer}
use Rattle.spec_format.specs.declared.WriteAnswer.TheVariants as answer

-- room for n bytes, of which k are needed
abbrev pub room : ℕ → ℕ → WriteAnswer
room n k = pick (leb k n) (answer.Done k) (answer.Room k)

-- what a writer answers, lent a slice of n bytes; `kept`: no rule that it has is broken
abbrev pub write_answer : (ℕ → Bool → Bool → Rooms → Head → Bool) → ℕ → Bool → Bool → Rooms → Head → ℕ → WriteAnswer
write_answer kept W truncate escape r h n =
    pick (width_fine W) (pick (rooms_fine r h) (pick (well_formed W truncate escape (table_of r h)) (pick (kept W truncate escape r h)
    (room n (length (written W truncate escape (table_of r h))))
    (answer.Refused unwritten.NotKept)) (answer.Refused unwritten.NoLayout)) (answer.Refused unwritten.BadRooms)) (answer.Refused unwritten.BadWidth)

-- the plain writer has no rule
abbrev pub no_rule : ℕ → Bool → Bool → Rooms → Head → Bool
no_rule W truncate escape r h = true

abbrev pub keeping_rules : ℕ → Bool → Bool → Rooms → Head → Bool
keeping_rules W truncate escape r h = keeps W truncate escape (table_of r h)

unfoldable pub plain_answer : ℕ → Bool → Bool → Rooms → Head → ℕ → WriteAnswer
plain_answer W truncate escape r h n = write_answer no_rule W truncate escape r h n

unfoldable pub keeping_answer : ℕ → Bool → Bool → Rooms → Head → ℕ → WriteAnswer
keeping_answer W truncate escape r h n = write_answer keeping_rules W truncate escape r h n

-- the slice afterwards: the written text and what stood behind it, or unchanged
abbrev pub slice_after : WriteAnswer → List ℕ → List ℕ → List ℕ
slice_after (answer.Done k) new old = over new old
slice_after (answer.Refused why) new old = old
slice_after (answer.Room k) new old = old
