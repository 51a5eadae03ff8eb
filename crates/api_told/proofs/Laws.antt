-- What is told, by which answer it is.
use Prim.Native.Nat.{ℕ}
use mathlib.Core.Path.{◌≡◌}
use mathlib.Core.List.{List}
use Rattle.spec_format.specs.Numbers.{unread_number, unread_place, write_number, write_value}
use Rattle.spec_format.specs.declared.Head.{Head}
use Rattle.spec_format.specs.declared.Sizes.{Sizes}
use Rattle.spec_format.specs.declared.Unread.{Unread}
use Rattle.spec_format.specs.declared.ReadAnswer.{ReadAnswer}
use Rattle.spec_format.specs.declared.ReadAnswer.TheVariants as answer
use Rattle.spec_format.specs.declared.WriteAnswer.{WriteAnswer}
use Rattle.spec_lines.specs.declared.Spot.{Spot}
use Rattle.spec_contracts.specs.Numbers.{head_numbers}
use Rattle.spec_contracts.specs.Told.{no_head, no_sizes, reported, reading, writing}

module _ (at : ℕ) (a : ReadAnswer) (spot : Spot) where
  pub done_told : (h : Head) (p : ℕ) (numbers : List ℕ) (none : Sizes) → a ≡ answer.Done h p → numbers ≡ head_numbers h → none ≡ no_sizes
      → record { number = 0; place = p; line = spot.line; offset = spot.offset; head = numbers; sizes = none } ≡ reading at (reported a spot)
  done_told h p numbers none e f g = rw (e, f, g)

  pub refused_told : (why : Unread) (n p : ℕ) (none : Sizes) → a ≡ answer.Refused why → n ≡ unread_number why → p ≡ unread_place why at → none ≡ no_sizes
      → record { number = n; place = p; line = spot.line; offset = spot.offset; head = no_head; sizes = none } ≡ reading at (reported a spot)
  refused_told why n p none e f g h = rw (e, f, g, h)

  pub room_told : (n : Sizes) → a ≡ answer.Room n
      → record { number = 6; place = at; line = spot.line; offset = spot.offset; head = no_head; sizes = n } ≡ reading at (reported a spot)
  room_told n e = rw e

pub value_told : (a : WriteAnswer) (n v : ℕ) → n ≡ write_number a → v ≡ write_value a → record { number = n; count = v } ≡ writing a
value_told a n v e f = rw (e, f)
