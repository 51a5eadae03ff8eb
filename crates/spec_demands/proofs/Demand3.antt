-- DEMAND 3, KEPT: what the keeping writer has written is read back as the same table. The rest, and what is asked, is in specs/Demand3.antt.
use Rattle.std.specs.Prelude.{ℕ, ◌≤◌, Bool, true, false, List, ◌≡◌, refl, length, take}
use Rattle.std.proofs.Common.{sym, ap, subst, ◌∙◌}
use Rattle.spec_format.specs.Numbers.{read_number, read_place}
use Rattle.spec_format.specs.Record.{most}
use Rattle.spec_format.specs.Rooms.{Rooms, table_of, sizes, fits, rooms_after}
use Rattle.spec_format.specs.Rooms as rooms
use Rattle.spec_format.specs.Strict.{letters_fit}
use Rattle.spec_format.specs.declared.Head.{Head}
use Rattle.spec_format.specs.declared.ReadAnswer.{ReadAnswer}
use Rattle.spec_format.specs.declared.ReadAnswer.TheVariants as read
use Rattle.spec_format.specs.declared.WriteAnswer.TheVariants as write
use Rattle.spec_strict.specs.Switch.{codes_read}
use Rattle.spec_promise.specs.Grounds.{DoneBy, done_by, done_reads, done_holds}
use Rattle.spec_contracts.specs.Equal.{rooms_after_lem}
use Rattle.spec_contracts.specs.Numbers.{head_from}
use Rattle.spec_contracts.specs.Reads.{Answered}
use Rattle.spec_contracts.specs.Rounds.{head_of, how_after, Rounds}
use Rattle.spec_contracts.specs.Told.{how_of, head_told, ReadTold, WriteTold}
use Rattle.spec_contracts.specs.Writes.{WriteAnswered}
use Rattle.spec_contracts.specs.declared.Reading.{Reading}
use Rattle.spec_contracts.specs.declared.Reported.{Reported}
use Rattle.spec_contracts.specs.declared.Writing.{Writing}
use Rattle.api_head.specs.Back.{head_back}
use Rattle.spec_demands.specs.Answers.{keeping_passed}
use Rattle.spec_demands.specs.HeadSmall.{head_small}
use Rattle.spec_demands.specs.What.{Same, SameTold}
use Rattle.spec_demands.specs.Demand3.{wrote}
use Rattle.spec_demands.proofs.Back.{back}

-- ---- THE WRITER, at width W with the two switches, and then THE READER

module _ (W : ℕ) (truncate escape : Bool) (r : Rooms) (h : Head) (old new : List ℕ) where
  -- IS IT STILL RECORD 318? The keeping writer has written k bytes. The reader, called on them with rooms that the table fits, whatever they held, is done, has taken all k bytes, and
  -- its rooms hold the same table.
  pub still_the_same : (k : ℕ) → WriteAnswered (how_of true W truncate escape) r h old new (write.Done k) → k ≤ most → (strict : Bool) (before after : Rooms) (a : ReadAnswer) →
      fits (sizes (table_of r h)) before ≡ true → letters_fit strict (table_of r h) ≡ true → Answered strict (take k new) 0 before after a → Same r h k after a
  still_the_same k call m strict before after a f c again =
      let b = back W truncate escape r h old new k call m strict before f c in
      record {
        head = rooms.head_of (table_of r h);
        done = again.is ∙ b.done;
        same = ap (λ (x : Rooms). table_of x (rooms.head_of (table_of r h))) (rooms_after_lem strict (take k new) 0 before after a again) ∙ b.same;
      }

-- ---- THE BOUNDARY: `vilggodan_write` with `keep`, and then `vilggodan_read`

module _ (W : ℕ) (truncate escape : Bool) (r : Rooms) (ns old new : List ℕ) (w : Writing) (call : WriteTold (how_of true W truncate escape) r ns old new w) where
  module _ (done : w.number ≡ 0) where
    -- the head that is told is understood by the writer as the same table's
    pub told_the_same : w.count ≤ most → (strict : Bool) (before after : Rooms) (told : Reading) → fits (sizes (table_of r (head_from ns))) before ≡ true →
        letters_fit strict (table_of r (head_from ns)) ≡ true → ReadTold strict (take w.count new) 0 before after told → SameTold r ns w.count after told
    told_the_same m strict before after told f c again =
        let t = table_of r (head_from ns) in
        let b = back W truncate escape r (head_from ns) old new w.count (wrote W truncate escape r ns old new w call done) m strict before f c in
        let passed = keeping_passed W truncate escape r (head_from ns) (length old) w.count (sym (wrote W truncate escape r ns old new w call done).is) in
        let is : again.answer.answer ≡ read.Done (rooms.head_of t) w.count = again.answered.answered.is ∙ b.done in
        let head-is : head_from told.head ≡ rooms.head_of t =
        ap (λ (x : Reading). head_from x.head) again.is ∙ ap (λ (x : ReadAnswer). head_from (head_told x)) is
        ∙ head_back (rooms.head_of t) (head_small W truncate escape r (head_from ns) passed.rooms passed.formed (wrote W truncate escape r ns old new w call done).fits) in
        record {
          done = ap (λ (x : Reading). x.number) again.is ∙ ap read_number is;
          place = ap (λ (x : Reading). x.place) again.is ∙ ap (read_place 0) is;
          same =
              ap (table_of after) head-is ∙
              (ap (λ (x : Rooms). table_of x (rooms.head_of t)) (rooms_after_lem strict (take w.count new) 0 before after again.answer.answer again.answered.answered) ∙ b.same);
        }

-- ---- THE FUNCTION BEHIND THE PROGRAMS: a record that was read, strictly or not, and then written by the keeping rules, is read again as the table that was read. It was read, so
-- nothing is asked of its letters

module _
    (strict : Bool) (s : List ℕ) (at : ℕ) (old : Rooms) (W : ℕ) (truncate escape : Bool) (t rf cm q lc l out new : List ℕ) (r : Reported) (h : Head) (place k : ℕ)
    (call : Rounds strict s at old (how_of true W truncate escape) t rf cm q lc l out new r (write.Done k)) (done : r.answer ≡ read.Done h place) where
  -- what was read strictly has letters with codes
  was_read : letters_fit strict (table_of (rooms_after strict s at old) h) ≡ true
  was_read =
      let by : DoneBy strict s at old h place = done_by strict s at old h place (sym call.is ∙ done) in
      rw (done_holds strict s at old h place by.table by.rest by (done_reads strict s at old h place by)) (codes_read strict s at by.table by.rest by.reads)

  read_again : k ≤ most → (again : Bool) (before after : Rooms) (a : ReadAnswer) → fits (sizes (table_of (rooms_after strict s at old) h)) before ≡ true →
      letters_fit again (table_of (rooms_after strict s at old) h) ≡ true → Answered again (take k new) 0 before after a → Same (rooms_after strict s at old) h k after a
  read_again m again before after a f c answered =
      let wrote : WriteAnswered (how_of true W truncate escape) (rooms_after strict s at old) h out new (write.Done k) =
      subst (λ (x : ReadAnswer). WriteAnswered (how_after x (how_of true W truncate escape)) (rooms_after strict s at old) (head_of x) out new (write.Done k)) done call.wrote in
      still_the_same W truncate escape (rooms_after strict s at old) h out new k wrote m again before after a f c answered

  -- with the switch as it was
  pub round_the_same : k ≤ most → (before after : Rooms) (a : ReadAnswer) → fits (sizes (table_of (rooms_after strict s at old) h)) before ≡ true →
      Answered strict (take k new) 0 before after a → Same (rooms_after strict s at old) h k after a
  round_the_same m before after a f again = read_again m strict before after a f was_read again

  -- and with it off
  pub round_the_same_off : k ≤ most → (before after : Rooms) (a : ReadAnswer) → fits (sizes (table_of (rooms_after strict s at old) h)) before ≡ true →
      Answered false (take k new) 0 before after a → Same (rooms_after strict s at old) h k after a
  round_the_same_off m before after a f again = read_again m false before after a f refl again
