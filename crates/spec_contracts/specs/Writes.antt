-- What the writer promises: the answer, and what it leaves in the slice that it is lent. It rules out a writer that leaves part of the text unwritten, one that changes the slice and
-- then refuses, and a keeping one that always refuses by a rule or never does.
use Rattle.std.specs.Prelude.{ℕ, ◌<◌, ◌≡◌, Bool, true, false, List, length, Option, Some, None}
use Rattle.spec_format.specs.Answers.{plain_answer, keeping_answer, slice_after}
use Rattle.spec_format.specs.Rooms.{Rooms, table_of}
use Rattle.spec_format.specs.Table.{Table}
use Rattle.spec_format.specs.Write.{written}
use Rattle.spec_format.specs.declared.Head.{Head}
use Rattle.spec_format.specs.declared.WriteAnswer.{WriteAnswer}
use Rattle.spec_format.specs.declared.How.{How}

-- what is due of the keeping writer, where it is asked for, or of the plain one, lent a slice of n bytes
abbrev pub answer_by : Bool → ℕ → Bool → Bool → Rooms → Head → ℕ → WriteAnswer
answer_by true W truncate escape r h n = keeping_answer W truncate escape r h n
answer_by false W truncate escape r h n = plain_answer W truncate escape r h n

abbrev pub answer_due : How → Rooms → Head → ℕ → WriteAnswer
answer_due how r h n = answer_by how.keeping how.width how.truncate how.escape r h n

abbrev pub text_due : How → Table → List ℕ
text_due how t = written how.width how.truncate how.escape t

-- every length that can be passed has 32 bits
abbrev pub LengthFits : Option ℕ → Type 0
LengthFits None = Unit
LengthFits (Some n) = n < 4294967296

-- THE WRITER'S ANSWER, and the slice afterwards; `fits` is a fact that the call's types give
pub record WriteAnswered (how : How) (r : Rooms) (h : Head) (old new : List ℕ) (a : WriteAnswer) : Type 0 where
  pub is : a ≡ answer_due how r h (length old)
  pub slice : new ≡ slice_after a (text_due how (table_of r h)) old
  pub fits : LengthFits h.length
