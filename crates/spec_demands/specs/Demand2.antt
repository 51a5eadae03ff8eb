-- DEMAND 2, RIGHT. The answer and the rooms afterwards are those of the definitions (crates/spec_format), from each place, strictly or not. That the definitions say what the Rust does, but for the
-- departures of documents 01 and 02, is evidence and no proof (docs/EVIDENCE.md, docs/DIFFERENCES.md). What the public documents define is proved of the definitions, against definitions made
-- from those documents alone (crates/spec_public): writing in crates/spec_columns, reading in crates/spec_columns_back.
use Rattle.std.specs.Prelude.{ℕ, ◌-◌, Bool, true, List, ◌++◌, ◌≡◌, length, drop}
use Rattle.std.proofs.Common.{sym, ap, ◌∙◌}
use Rattle.spec_format.specs.Answers.{slice_after}
use Rattle.spec_format.specs.Record.{was_read, not_read, read_at}
use Rattle.spec_format.specs.Rooms.{Rooms, table_of, lengths_fine, rooms_fine, read_answer, rooms_after}
use Rattle.spec_format.specs.Strict.{read_by, letters_fit}
use Rattle.spec_format.specs.Table.{Table}
use Rattle.spec_format.specs.declared.Head.{Head}
use Rattle.spec_format.specs.declared.How.{How}
use Rattle.spec_format.specs.declared.ReadAnswer.{ReadAnswer}
use Rattle.spec_format.specs.declared.ReadAnswer.TheVariants as read
use Rattle.spec_format.specs.declared.Unread.{Unread}
use Rattle.spec_format.specs.declared.WriteAnswer.{WriteAnswer}
use Rattle.spec_format.specs.declared.WriteAnswer.TheVariants as write
use Rattle.spec_lines.specs.Troubles.{read_spot}
use Rattle.spec_strict.specs.Switch.{as_read, codes_read}
use Rattle.spec_promise.specs.Grounds.{DoneBy, done_by, done_reads, done_holds}
use Rattle.spec_promise.specs.Promise.{what_was_read_can_be_written}
use Rattle.spec_contracts.specs.Equal.{rooms_after_lem}
use Rattle.spec_contracts.specs.Numbers.{head_from}
use Rattle.spec_contracts.specs.Reads.{Answered, ReadReported}
use Rattle.spec_contracts.specs.Told.{reading, writing, ReadTold, WriteTold}
use Rattle.spec_contracts.specs.Writes.{answer_due, text_due, WriteAnswered}
use Rattle.spec_contracts.specs.declared.Reading.{Reading}
use Rattle.spec_contracts.specs.declared.Reported.{Reported}
use Rattle.spec_contracts.specs.declared.Writing.{Writing}
use Rattle.spec_demands.specs.Answers.{reported_equal, refused_by, done_count}

-- ---- THE READER

-- a table that the definitions read at the place, strictly or not, with `rest` left. It is the one that they read without the switch; with it on, its letters all have codes
pub record ReadsTable (strict : Bool) (s : List ℕ) (at : ℕ) (t : Table) (place : ℕ) : Type 0 where
  pub rest : List ℕ
  pub reads_so : read_by strict s at ≡ was_read t rest
  pub reads : read_at s at ≡ was_read t rest
  pub letters_fit : letters_fit strict t ≡ true
  pub place_is : place ≡ length s - length rest

module _ (strict : Bool) (s : List ℕ) (at : ℕ) (old new : Rooms) (a : ReadAnswer) (call : Answered strict s at old new a) where
  pub read_right : (a ≡ read_answer strict s at old) × (new ≡ rooms_after strict s at old)
  read_right = (call.is, rooms_after_lem strict s at old new a call)

  -- done: the table in the rooms is the one that the definitions read there, and the place is where they stop
  pub read_done : (h : Head) (place : ℕ) → a ≡ read.Done h place → ReadsTable strict s at (table_of new h) place
  read_done h place e =
      let by : DoneBy strict s at old h place = done_by strict s at old h place (sym call.is ∙ e) in
      let plain = done_reads strict s at old h place by in
      let t-is : table_of new h ≡ by.table = ap (λ (x : Rooms). table_of x h) (rooms_after_lem strict s at old new a call) ∙ done_holds strict s at old h place by.table by.rest by plain in
      let so : read_by strict s at ≡ was_read (table_of new h) by.rest = by.reads ∙ ap (λ (x : Table). was_read x by.rest) (sym t-is) in
      record {
        rest = by.rest;
        reads_so = so;
        reads = as_read strict s at (table_of new h) by.rest so;
        letters_fit = codes_read strict s at (table_of new h) by.rest so;
        place_is = by.ended;
      }

  -- and can be handed to the writer: number 10 is not due, if no room is longer than 16,777,216
  pub read_fine : (h : Head) (place : ℕ) → a ≡ read.Done h place → lengths_fine old ≡ true → rooms_fine new h ≡ true
  read_fine h place e l =
      rw (rooms_after_lem strict s at old new a call) (what_was_read_can_be_written strict s at old h place (sym call.is ∙ e) l)

  -- refused: the definitions read none there, for that reason
  pub read_refused : (why : Unread) → a ≡ read.Refused why → read_by strict s at ≡ not_read why
  read_refused why e = refused_by strict s at old why (sym call.is ∙ e)

-- answer and line
abbrev pub report_due : Bool → List ℕ → ℕ → Rooms → Reported
report_due strict s at old = record { answer = read_answer strict s at old; spot = read_spot s at (read_answer strict s at old) }

pub reported_right : (strict : Bool) (s : List ℕ) (at : ℕ) (old new : Rooms) (r : Reported) → ReadReported strict s at old new r →
    (r ≡ report_due strict s at old) × (new ≡ rooms_after strict s at old)
reported_right strict s at old new r call =
    let e = call.answered.is in (
      reported_equal r (report_due strict s at old) e (call.told ∙ ap (λ (x : ReadAnswer). read_spot s at x) e),
      rooms_after_lem strict s at old new r.answer call.answered,
    )

-- ---- THE WRITER

module _ (how : How) (r : Rooms) (h : Head) (old new : List ℕ) (a : WriteAnswer) (call : WriteAnswered how r h old new a) where
  pub written_right : (a ≡ answer_due how r h (length old)) × (new ≡ slice_after a (text_due how (table_of r h)) old)
  written_right = (call.is, call.slice)

  -- done: the text of the definitions stands at the start of the slice, what stood behind it is untouched, and the count is its length
  pub written_done : (k : ℕ) → a ≡ write.Done k →
      (new ≡ text_due how (table_of r h) ++ drop (length (text_due how (table_of r h))) old) × (k ≡ length (text_due how (table_of r h)))
  written_done k e =
      (call.slice ∙ ap (λ (x : WriteAnswer). slice_after x (text_due how (table_of r h)) old) e, done_count how r h (length old) k (sym call.is ∙ e))

-- ---- THE BOUNDARY: the same answers, as numbers

pub read_told_right : (strict : Bool) (s : List ℕ) (at : ℕ) (old new : Rooms) (told : Reading) → ReadTold strict s at old new told →
    (told ≡ reading at (report_due strict s at old)) × (new ≡ rooms_after strict s at old)
read_told_right strict s at old new told call = (
  call.is ∙ ap (λ (x : Reported). reading at x) (reported_right strict s at old new call.answer call.answered).0,
  rooms_after_lem strict s at old new call.answer.answer call.answered.answered,
)

pub written_told_right : (how : How) (r : Rooms) (ns old new : List ℕ) (told : Writing) → WriteTold how r ns old new told →
    (told ≡ writing (answer_due how r (head_from ns) (length old))) × (new ≡ slice_after (answer_due how r (head_from ns) (length old)) (text_due how (table_of r (head_from ns))) old)
written_told_right how r ns old new told call =
    (call.is ∙ ap writing call.answered.is, call.answered.slice ∙ ap (λ (x : WriteAnswer). slice_after x (text_due how (table_of r (head_from ns))) old) call.answered.is)
