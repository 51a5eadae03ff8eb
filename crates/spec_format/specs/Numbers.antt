-- Document 01's number for each answer, and what is returned with it ("Numbers answered"): the promises use these.
use Rattle.std.specs.Prelude.{ℕ}
use Rattle.spec_format.specs.declared.Unread.{Unread}
use Rattle.spec_format.specs.declared.Unread.TheVariants as unread
use Rattle.spec_format.specs.declared.ReadAnswer.{ReadAnswer}
use Rattle.spec_format.specs.declared.ReadAnswer.TheVariants as read
use Rattle.spec_format.specs.declared.Unwritten.{Unwritten}
use Rattle.spec_format.specs.declared.Unwritten.TheVariants as unwritten
use Rattle.spec_format.specs.declared.WriteAnswer.{WriteAnswer}
use Rattle.spec_format.specs.declared.WriteAnswer.TheVariants as write

-- ---- the reader's; `at` is the place given

abbrev pub unread_number : Unread → ℕ
unread_number unread.AtEnd = 1
unread_number unread.Unended = 2
unread_number unread.BadPlace = 3
unread_number unread.NoLocus = 4
unread_number unread.TwoDefinitions = 5
unread_number unread.NoSlashes = 7
unread_number unread.OtherLength = 8
unread_number unread.BadLetter = 9
unread_number unread.TooDeep = 14
unread_number unread.StrayLetter = 16

abbrev pub unread_place : Unread → ℕ → ℕ
unread_place unread.AtEnd at = at
unread_place unread.Unended at = at
unread_place unread.BadPlace at = 0
unread_place unread.NoLocus at = at
unread_place unread.TwoDefinitions at = at
unread_place unread.NoSlashes at = at
unread_place unread.OtherLength at = at
unread_place unread.BadLetter at = at
unread_place unread.TooDeep at = at
unread_place unread.StrayLetter at = at

abbrev pub read_number : ReadAnswer → ℕ
read_number (read.Done head place) = 0
read_number (read.Refused why) = unread_number why
read_number (read.Room sizes) = 6

-- the place reached, or that of the refusal; with 6 come the exact sizes, and the place stays
abbrev pub read_place : ℕ → ReadAnswer → ℕ
read_place at (read.Done head place) = place
read_place at (read.Refused why) = unread_place why at
read_place at (read.Room sizes) = at

-- ---- a writer's

abbrev pub unwritten_number : Unwritten → ℕ
unwritten_number unwritten.BadRooms = 10
unwritten_number unwritten.NoLayout = 11
unwritten_number unwritten.BadWidth = 12
unwritten_number unwritten.NotKept = 13

abbrev pub write_number : WriteAnswer → ℕ
write_number (write.Done count) = 0
write_number (write.Room count) = 6
write_number (write.Refused why) = unwritten_number why

-- the bytes written, or those that it takes
abbrev pub write_value : WriteAnswer → ℕ
write_value (write.Done count) = count
write_value (write.Room count) = count
write_value (write.Refused why) = 0
