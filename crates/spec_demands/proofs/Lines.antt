-- WHERE NO LINE IS TOLD: with 0, 1 and 3 line and offset are 0. The rest is in specs/Lines.antt.
use Rattle.std.specs.Prelude.{ℕ, Bool, true, List, ◌≡◌}
use Rattle.std.proofs.Common.{ap, ◌∙◌}
use Rattle.spec_format.specs.Numbers.{read_number}
use Rattle.spec_format.specs.Rooms.{Rooms}
use Rattle.spec_format.specs.declared.How.{How}
use Rattle.spec_format.specs.declared.WriteAnswer.{WriteAnswer}
use Rattle.spec_lines.specs.Lines.{nowhere}
use Rattle.spec_lines.specs.declared.Spot.{Spot}
use Rattle.spec_contracts.specs.Reads.{ReadReported}
use Rattle.spec_contracts.specs.Rounds.{Rounds}
use Rattle.spec_contracts.specs.Told.{ReadTold}
use Rattle.spec_contracts.specs.declared.Reading.{Reading}
use Rattle.spec_contracts.specs.declared.Reported.{Reported}
use Rattle.spec_demands.specs.Spots.{answer_no_line}
use Rattle.spec_demands.specs.What.{lineless}
use Rattle.spec_demands.specs.Lines.{number_is}

-- ---- THE READER: a call on the slice s at a place, strict or not

module _ (strict : Bool) (s : List ℕ) (at : ℕ) (old new : Rooms) (r : Reported) (call : ReadReported strict s at old new r) where
  pub no_line : lineless (read_number r.answer) ≡ true → (r.spot.line ≡ 0) × (r.spot.offset ≡ 0)
  no_line n =
      let e : r.spot ≡ nowhere = call.told ∙ answer_no_line s at r.answer n in
      (ap (λ (x : Spot). x.line) e, ap (λ (x : Spot). x.offset) e)

-- ---- THE BOUNDARY for C and Rust: `vilggodan_read`

module _ (strict : Bool) (s : List ℕ) (at : ℕ) (old new : Rooms) (told : Reading) (call : ReadTold strict s at old new told) where
  pub read_told_no_line : lineless told.number ≡ true → (told.line ≡ 0) × (told.offset ≡ 0)
  read_told_no_line n = rw call.is (no_line strict s at old new call.answer call.answered (rw (number_is strict s at old new told call) at n))

-- ---- THE FUNCTION BEHIND THE PROGRAMS

module _
    (strict : Bool) (s : List ℕ) (at : ℕ) (old : Rooms) (how : How) (t rf cm q lc l before after : List ℕ) (r : Reported) (w : WriteAnswer)
    (call : Rounds strict s at old how t rf cm q lc l before after r w) where
  pub round_no_line : lineless (read_number r.answer) ≡ true → (r.spot.line ≡ 0) × (r.spot.offset ≡ 0)
  round_no_line n =
      let e : r.spot ≡ nowhere = call.told ∙ answer_no_line s at r.answer n in
      (ap (λ (x : Spot). x.line) e, ap (λ (x : Spot). x.offset) e)
