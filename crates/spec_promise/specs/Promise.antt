-- WHAT IS PROMISED. Each statement can be read without its proof. With the strict switch on a record comes back too: proofs/Promise.antt.
use Rattle.std.specs.Prelude.{ℕ, ◌-◌, ◌<◌, ◌≤◌, Bool, true, false, ◌↔◌, ◌≡◌, List, ◌++◌, length, take, leb, Some}
use Rattle.std.proofs.Common.{sym, ap, ◌∙◌, arith}
use Rattle.spec_format.specs.Bytes.{is, each, all}
use Rattle.spec_format.specs.Table.{Table}
use Rattle.spec_format.specs.Record.{was_read, most, read_at}
use Rattle.spec_format.specs.Strict.{letters_fit}
use Rattle.spec_format.specs.Write.{written}
use Rattle.spec_format.specs.WellFormed.{well_formed}
use Rattle.spec_format.specs.Keeping.{keeps}
use Rattle.spec_format.specs.Rooms.{Rooms, table_of, locations_read, lengths_fine, rooms_fine, sizes, fits, head_of, read_answer, rooms_after}
use Rattle.spec_format.specs.Answers.{keeping_answer, plain_answer, slice_after}
use Rattle.spec_format.specs.declared.Head.{Head}
use Rattle.spec_format.specs.declared.ReadAnswer.TheVariants as read
use Rattle.spec_format.specs.declared.Unwritten.TheVariants as unwritten
use Rattle.spec_format.specs.declared.WriteAnswer.TheVariants as answer
use Rattle.spec_record_back.specs.RecordBack.{line_ends}
use Rattle.spec_record_back.specs.RecordsBack.{keepable, Records}
use Rattle.spec_record_back.proofs.RecordsBack.{kept_inside, kept_all}
use Rattle.spec_promise.specs.EmptyLines.{EmptyLine, end_bytes, lines_inside}
use Rattle.spec_promise.specs.Grounds.{width_fine_lem, length_fits_lem, head_length_fits, can_keep, as_plain, refused_by_rule, rule_broken, done_as_plain, done_by, done_holds, done_ends, done_fine, read_done, read_back}

-- ---- the record comes back

-- The keeping writer takes this table: it can be laid out at a width of 60 to 132, and it breaks no keeping rule. Its location rows are those of its
-- texts, which number 10 sees to. The length that its LOCUS line gives is below 2^32, as every number of 32 bits is.
pub record Taken (W : ℕ) (truncate escape : Bool) (t : Table) : Type 0 where
  pub narrowest : 60 ≤ W
  pub widest : W ≤ 132
  pub laid_out : well_formed W truncate escape t ≡ true
  pub rules : keeps W truncate escape t ≡ true
  pub rows_read : locations_read t ≡ true
  pub bases : (n : ℕ) → t.locus.length ≡ is n → n < 4294967296

-- What is written of such a table is read back as that table, at any place of any slice of at most 16,777,216 bytes. Reading ends where the
-- record does, and leaves what follows, which may be nothing and does not begin with a line end.
pub record_comes_back :
    (W : ℕ) (truncate escape : Bool) (before : List ℕ) (t : Table) (rest : List ℕ) → Taken W truncate escape t → line_ends rest ≡ false →
    leb (length (before ++ (written W truncate escape t ++ rest))) most ≡ true →
    read_at (before ++ (written W truncate escape t ++ rest)) (length before) ≡ was_read t rest
record_comes_back W truncate escape before t rest k e m =
    kept_inside W truncate escape (width_fine_lem W k.narrowest k.widest) before t rest
    (can_keep W truncate escape t k.laid_out k.rules k.rows_read (length_fits_lem t (λ n d. omega (arith, k.bases n d)))) e m

-- Empty lines that follow the record are taken with it, whether they end with LF or with CR LF. They are no part of the table, and the next record
-- is read from behind them.
pub empty_lines_are_taken :
    (W : ℕ) (truncate escape : Bool) (before : List ℕ) (t : Table) (lines : List EmptyLine) (rest : List ℕ) → Taken W truncate escape t →
    line_ends rest ≡ false → leb (length (before ++ (written W truncate escape t ++ (each end_bytes lines ++ rest)))) most ≡ true →
    read_at (before ++ (written W truncate escape t ++ (each end_bytes lines ++ rest))) (length before) ≡ was_read t rest
empty_lines_are_taken W truncate escape before t lines rest k e m =
    lines_inside W truncate escape before t lines rest (width_fine_lem W k.narrowest k.widest) k.laid_out k.rules k.rows_read
    (length_fits_lem t (λ n d. omega (arith, k.bases n d))) e m

-- Tables that are written one after the other are read back, all of them and in their order, each from the place where the one before ended. After
-- the last one the reader says that there is no more.
pub records_come_back :
    (W : ℕ) (truncate escape : Bool) → 60 ≤ W → W ≤ 132 → (ts : List Table) → all (keepable W truncate escape) ts ≡ true →
    leb (length (each (written W truncate escape) ts)) most ≡ true → Records (each (written W truncate escape) ts) 0 ts
records_come_back W truncate escape l u ts k m = kept_all W truncate escape (width_fine_lem W l u) ts k m

-- ---- rooms

-- When the reader answers that it is done, the head that it answers and the rooms afterwards hold the table that the definitions read at that place,
-- whatever the rooms held before, and whether the strict switch is on or off. The place that it answers is where the definitions stop, with `rest` left
-- of the slice.
pub rooms_hold_what_was_read :
    (strict : Bool) (s : List ℕ) (at : ℕ) (q : Rooms) (h : Head) (place : ℕ) (t : Table) (rest : List ℕ) → read_answer strict s at q ≡ read.Done h place →
    read_at s at ≡ was_read t rest → (table_of (rooms_after strict s at q) h ≡ t) × (place ≡ length s - length rest)
rooms_hold_what_was_read strict s at q h place t rest d e =
    let by = done_by strict s at q h place d in
    (done_holds strict s at q h place t rest by e, done_ends strict s at q h place t rest by e)

-- What was read can be handed to a writer in the same rooms: number 10 is not due. That asks only that none of the rooms is longer than 16,777,216.
pub what_was_read_can_be_written :
    (strict : Bool) (s : List ℕ) (at : ℕ) (q : Rooms) (h : Head) (place : ℕ) → read_answer strict s at q ≡ read.Done h place → lengths_fine q ≡ true →
    rooms_fine (rooms_after strict s at q) h ≡ true
what_was_read_can_be_written strict s at q h place d l = done_fine strict s at q h place (done_by strict s at q h place d) l

-- The bytes that the keeping writer counts are read as done, up to their end. The head that is answered and the rooms afterwards hold the table of
-- the rooms that were written.
pub record Back (strict : Bool) (r : Rooms) (h : Head) (text : List ℕ) (k : ℕ) (q : Rooms) : Type 0 where
  pub done : read_answer strict text 0 q ≡ read.Done (head_of (table_of r h)) k
  pub same : table_of (rooms_after strict text 0 q) (head_of (table_of r h)) ≡ table_of r h

-- When the keeping writer answers that k bytes are written, of a table whose LOCUS length is below 2^32, these k bytes come back. They do so
-- through any rooms that the table fits, whatever those held, if k is at most 16,777,216; with the strict switch on, if the table's letters all have codes.
pub rooms_come_back :
    (strict : Bool) (W : ℕ) (truncate escape : Bool) (r : Rooms) (h : Head) (old new : List ℕ) (k : ℕ) →
    keeping_answer W truncate escape r h (length old) ≡ answer.Done k →
    new ≡ slice_after (keeping_answer W truncate escape r h (length old)) (written W truncate escape (table_of r h)) old →
    ((n : ℕ) → h.length ≡ Some n → n < 4294967296) → k ≤ most →
    letters_fit strict (table_of r h) ≡ true → (q : Rooms) → fits (sizes (table_of r h)) q ≡ true → Back strict r h (take k new) k q
rooms_come_back strict W truncate escape r h old new k e s n m c q f =
    let l = head_length_fits r h (λ j d. omega (arith, n j d)) in
    let u : k ≤ most = omega (arith, m) in
    record { done = read_done strict W truncate escape r h old k e l u c q f new s; same = read_back strict W truncate escape r h old k e l u c q f new s }

-- ---- number 13

-- Where neither 12 nor 10 nor 11 is due, the keeping writer answers 13 exactly when a keeping rule is broken. How much room it is lent makes no
-- difference to that.
pub thirteen_exactly :
    (W : ℕ) (truncate escape : Bool) (r : Rooms) (h : Head) (n : ℕ) → 60 ≤ W → W ≤ 132 → rooms_fine r h ≡ true →
    well_formed W truncate escape (table_of r h) ≡ true →
    (keeping_answer W truncate escape r h n ≡ answer.Refused unwritten.NotKept) ↔ (keeps W truncate escape (table_of r h) ≡ false)
thirteen_exactly W truncate escape r h n l u a b =
    (rule_broken W truncate escape r h n, refused_by_rule W truncate escape r h n (width_fine_lem W (omega (arith, l)) (omega (arith, u))) a b)

-- Where no keeping rule is broken, the keeping writer answers what the plain one does, whatever that is. So it refuses no more than the plain one,
-- but by a rule.
pub kept_as_plain :
    (W : ℕ) (truncate escape : Bool) (r : Rooms) (h : Head) (n : ℕ) → keeps W truncate escape (table_of r h) ≡ true →
    keeping_answer W truncate escape r h n ≡ plain_answer W truncate escape r h n
kept_as_plain = as_plain

-- Where the keeping writer is done, the plain writer is too, with the same count. The slice afterwards is the same, byte for byte.
pub done_like_plain :
    (W : ℕ) (truncate escape : Bool) (r : Rooms) (h : Head) (old : List ℕ) (k : ℕ) →
    keeping_answer W truncate escape r h (length old) ≡ answer.Done k →
    (plain_answer W truncate escape r h (length old) ≡ answer.Done k) ×
    (slice_after (keeping_answer W truncate escape r h (length old)) (written W truncate escape (table_of r h)) old ≡
    slice_after (plain_answer W truncate escape r h (length old)) (written W truncate escape (table_of r h)) old)
done_like_plain W truncate escape r h old k e =
    let p = done_as_plain W truncate escape r h (length old) k e in
    (p, ap (λ a. slice_after a (written W truncate escape (table_of r h)) old) (e ∙ sym p))
