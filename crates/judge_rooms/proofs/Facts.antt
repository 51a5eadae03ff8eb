-- What the writers require is known where number 10 is not due.
use Rattle.std.specs.Prelude.{◌*◌, ◌≡◌, true}
use Rattle.std.proofs.Common.{arith}
use Rattle.spec_format.specs.Rooms.{Rooms, rows_fine, reference_row_fine, comment_row_fine, features_fine, rooms_fine}
use Rattle.spec_format.specs.declared.Head.{Head}
use Rattle.judge_rooms.specs.Steps.{and_left, and_right, rows_each}
use Rattle.judge_rooms.specs.Facts.{RoomsIn, lengths_in, head_in, counts_in, reference_in_lem, comment_in_lem, features_each}

ruleset parts = (and_left, and_right)

-- what the writers require
pub rooms_in_lem : (r : Rooms) (h : Head) → rooms_fine r h ≡ true → RoomsIn r h
unfolding rooms_fine
rooms_in_lem r h e =
    let a : rows_fine (reference_row_fine r) 14 0 h.references ≡ true = search parts in
    let b : rows_fine (comment_row_fine r) 2 0 h.comments ≡ true = search parts in
    let c : features_fine r 0 0 h.features ≡ true = search parts in
    record {
      lengths = lengths_in r (search parts depth 12);
      head = head_in r h (search parts depth 12);
      counts = counts_in r h (search parts depth 12);
      reference = λ i l. reference_in_lem r (14 * i) (rows_each (reference_row_fine r) 14 0 h.references i a (omega arith) (omega arith));
      comment = λ i l. comment_in_lem r (2 * i) (rows_each (comment_row_fine r) 2 0 h.comments i b (omega arith) (omega arith));
      feature = λ i l. features_each r 0 0 h.features i c (omega arith) (omega arith);
    }
