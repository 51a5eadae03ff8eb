-- WHICH LINE A REFUSAL TELLS (document 02, ticket 2): "the line, counted from 1 at the given place, and the offset in the slice of its first byte (that place, or after an LF)". With every
-- number but 0, 1 and 3 that is the line in which the trouble lies (`LineTold` of What.antt says what that is); with 0, 1 and 3 line and offset are 0 (in proofs/Lines.antt). That the
-- trouble lies where the ticket says, number by number, is what the definition `troubled` says (crates/spec_lines), and is computed on examples there.
use Rattle.std.specs.Prelude.{ℕ, ◌-◌, ◌≤◌, Bool, false, List, ◌≡◌, length, drop}
use Rattle.std.proofs.Common.{ap}
use Rattle.spec_format.specs.Bytes.{is}
use Rattle.spec_format.specs.Numbers.{read_number}
use Rattle.spec_format.specs.Rooms.{Rooms}
use Rattle.spec_format.specs.declared.How.{How}
use Rattle.spec_format.specs.declared.ReadAnswer.{ReadAnswer}
use Rattle.spec_format.specs.declared.Unread.{Unread}
use Rattle.spec_format.specs.declared.WriteAnswer.{WriteAnswer}
use Rattle.spec_lines.specs.Stands.{Stands}
use Rattle.spec_lines.specs.Troubles.{troubled}
use Rattle.spec_contracts.specs.Reads.{ReadReported}
use Rattle.spec_contracts.specs.Rounds.{Rounds}
use Rattle.spec_contracts.specs.Told.{ReadTold}
use Rattle.spec_contracts.specs.declared.Reading.{Reading}
use Rattle.spec_contracts.specs.declared.Reported.{Reported}
use Rattle.spec_demands.specs.Spots.{one_line, answer_line}
use Rattle.spec_demands.specs.Troubled.{troubled_past, past_stands}
use Rattle.spec_demands.specs.What.{lineless, LineTold}

-- ---- THE DEFINITION: what stands from a trouble on stands in the slice, at the place given or later

pub troubled_stands : (why : Unread) (s : List ℕ) (at : ℕ) (t : List ℕ) → at ≤ length s → troubled why (drop at s) ≡ is t → Stands s at t (length s - length t)
troubled_stands why s at t l e = past_stands s at t l (troubled_past why (drop at s) t e)

-- ---- there is one such line: what `LineTold` says settles line and offset

pub line_one : (s : List ℕ) (at : ℕ) (a : ReadAnswer) (l m o n : ℕ) → LineTold s at a l o → LineTold s at a m n → (l ≡ m) × (o ≡ n)
line_one s at a l m o n x y = one_line s at a l m o n x y

-- ---- THE READER: a call on the slice s at a place, strict or not

module _ (strict : Bool) (s : List ℕ) (at : ℕ) (old new : Rooms) (r : Reported) (call : ReadReported strict s at old new r) where
  pub line_told : lineless (read_number r.answer) ≡ false → LineTold s at r.answer r.spot.line r.spot.offset
  line_told n = rw call.told (answer_line strict s at old r.answer call.answered.is n)

-- ---- THE BOUNDARY for C and Rust: `vilggodan_read`

module _ (strict : Bool) (s : List ℕ) (at : ℕ) (old new : Rooms) (told : Reading) (call : ReadTold strict s at old new told) where
  pub number_is : told.number ≡ read_number call.answer.answer
  number_is = ap (λ (x : Reading). x.number) call.is

  pub read_told_line : lineless told.number ≡ false → LineTold s at call.answer.answer told.line told.offset
  read_told_line n = rw call.is (line_told strict s at old new call.answer call.answered (rw number_is at n))

-- ---- THE FUNCTION BEHIND THE PROGRAMS

module _
    (strict : Bool) (s : List ℕ) (at : ℕ) (old : Rooms) (how : How) (t rf cm q lc l before after : List ℕ) (r : Reported) (w : WriteAnswer)
    (call : Rounds strict s at old how t rf cm q lc l before after r w) where
  pub round_line : lineless (read_number r.answer) ≡ false → LineTold s at r.answer r.spot.line r.spot.offset
  round_line n = rw call.told (answer_line strict s at old r.answer call.is n)
