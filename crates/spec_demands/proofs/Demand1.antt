-- DEMAND 1, of the reader's 6 and of what the boundary tells: the rest is in specs/Demand1.antt.
use Rattle.std.specs.Prelude.{ℕ, Bool, true, List, [], ◌∷◌, ◌↔◌, ◌≡◌, refl}
use Rattle.std.proofs.Common.{sym, ap, ◌∙◌}
use Rattle.spec_format.specs.Impossible.{impossible}
use Rattle.spec_format.specs.Numbers.{read_number}
use Rattle.spec_format.specs.Rooms.{Rooms}
use Rattle.spec_format.specs.declared.How.{How}
use Rattle.spec_format.specs.declared.ReadAnswer.{ReadAnswer}
use Rattle.spec_format.specs.declared.ReadAnswer.TheVariants as read
use Rattle.spec_format.specs.declared.Sizes.{Sizes}
use Rattle.spec_contracts.specs.Reads.{Answered, RowRooms, flat_rooms}
use Rattle.spec_contracts.specs.Told.{ReadTold, WriteTold}
use Rattle.spec_contracts.specs.declared.Reading.{Reading}
use Rattle.spec_contracts.specs.declared.Writing.{Writing}
use Rattle.spec_demands.specs.Answers.{unread_not_six}
use Rattle.spec_demands.specs.Six.{more_six}
use Rattle.spec_demands.proofs.Six.{six_more, told_more, told_used}
use Rattle.spec_demands.specs.What.{MoreRoom, Uses}
use Rattle.spec_demands.specs.Demand1.{one_of, written_numbered, read_untouched, number_is, wrote_is}

-- ---- THE READER: a call on the slice s at a place, strict or not, with rooms `old`, which are then `new`

module _ (strict : Bool) (s : List ℕ) (at : ℕ) (old new : Rooms) (a : ReadAnswer) (call : Answered strict s at old new a) where
  -- 6 EXACTLY WHEN THE CALL WOULD SUCCEED WITH MORE ROOM
  pub read_six : (read_number a ≡ 6) ↔ ((n : Sizes) × MoreRoom strict s at old n)
  read_six = (six_more strict s at old new a call, λ m. more_six strict s at old new a call m.0 m.1)

  -- with the sizes that make it succeed, and that a success then uses
  pub read_six_sizes : (n : Sizes) → a ≡ read.Room n → MoreRoom strict s at old n × ((more after : Rooms) (b : ReadAnswer) → Answered strict s at more after b → read_number b ≡ 0 → Uses n more after)
  read_six_sizes n e = (told_more strict s at old new a call n e, told_used strict s at old new a call n e)

-- ---- THE BOUNDARY for C and Rust: the same of `vilggodan_read` and `vilggodan_write`, which return their answers by value

module _ (strict : Bool) (s : List ℕ) (at : ℕ) (old new : RowRooms) (told : Reading) (call : ReadTold strict s at (flat_rooms old) (flat_rooms new) told) where
  pub read_told_untouched : (told.number ≡ 0 → ⊥) → new ≡ old
  read_told_untouched n = read_untouched strict s at old new call.answer.answer call.answered.answered (λ z. n (number_is strict s at old new told call ∙ z))

  pub read_told_six : (told.number ≡ 6) ↔ ((n : Sizes) × MoreRoom strict s at (flat_rooms old) n)
  read_told_six = rw (number_is strict s at old new told call) (read_six strict s at (flat_rooms old) (flat_rooms new) call.answer.answer call.answered.answered)

  pub read_told_sizes : told.number ≡ 6 → MoreRoom strict s at (flat_rooms old) told.sizes
  read_told_sizes z = go call.answer.answer refl
    where
      go : (a : ReadAnswer) → call.answer.answer ≡ a → MoreRoom strict s at (flat_rooms old) told.sizes
      go (read.Done h place) e = let x : told.number ≡ 0 = number_is strict s at old new told call ∙ ap read_number e in impossible cc
      go (read.Refused why) e = absurd (unread_not_six why (sym (number_is strict s at old new told call ∙ ap read_number e) ∙ z))
      go (read.Room n) e =
          rw call.is (rw e (read_six_sizes strict s at (flat_rooms old) (flat_rooms new) call.answer.answer call.answered.answered n e).0)

module _ (how : How) (r : Rooms) (ns old new : List ℕ) (told : Writing) (call : WriteTold how r ns old new told) where
  pub written_told_numbered : one_of (0 ∷ 6 ∷ 10 ∷ 11 ∷ 12 ∷ 13 ∷ []) told.number ≡ true
  written_told_numbered = rw (wrote_is how r ns old new told call) (written_numbered call.answer)
