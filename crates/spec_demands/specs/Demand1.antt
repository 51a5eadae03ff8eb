-- DEMAND 1, TOTAL. Every input has a numbered answer, and every call ends: that a call ends with an answer is what the check proves of each function; here is what its contract says of that
-- answer. A refusal leaves all lent room as it was. Any two answers that a contract permits agree. 6 is answered exactly when the call would succeed with more room:
-- of the reader in proofs/Demand1.antt.
use Rattle.std.specs.Prelude.{ℕ, Bool, true, false, ◌||◌, List, [], ◌∷◌, ◌↔◌, ◌≡◌, refl, eqb, length}
use Rattle.std.proofs.Common.{sym, ap, subst, ◌∙◌}
use Rattle.spec_format.specs.Answers.{slice_after}
use Rattle.spec_format.specs.Impossible.{impossible}
use Rattle.spec_format.specs.Numbers.{read_number, write_number, write_value}
use Rattle.spec_format.specs.Rooms.{Rooms, table_of, rooms_after}
use Rattle.spec_format.specs.WellFormed.{width_fine}
use Rattle.spec_format.specs.declared.Head.{Head}
use Rattle.spec_format.specs.declared.How.{How}
use Rattle.spec_format.specs.declared.ReadAnswer.{ReadAnswer}
use Rattle.spec_format.specs.declared.ReadAnswer.TheVariants as read
use Rattle.spec_format.specs.declared.Unread.TheVariants as unread
use Rattle.spec_format.specs.declared.Unwritten.TheVariants as unwritten
use Rattle.spec_format.specs.declared.WriteAnswer.{WriteAnswer}
use Rattle.spec_format.specs.declared.WriteAnswer.TheVariants as write
use Rattle.spec_contracts.specs.Equal.{rooms_after_lem}
use Rattle.spec_contracts.specs.Numbers.{head_from, outside}
use Rattle.spec_contracts.specs.Reads.{Answered, ReadReported, RowRooms, flat_rooms}
use Rattle.spec_contracts.specs.Rounds.{head_of, how_after, Rounds}
use Rattle.spec_contracts.specs.Told.{reading, writing, ReadTold, WriteTold}
use Rattle.spec_contracts.specs.Writes.{text_due, WriteAnswered}
use Rattle.spec_contracts.specs.declared.Reading.{Reading}
use Rattle.spec_contracts.specs.declared.Reported.{Reported}
use Rattle.spec_contracts.specs.declared.Writing.{Writing}
use Rattle.spec_demands.specs.Answers.{told_equal, rows_tell, room_of, after_same, slice_same, no_width, no_head_lem, what_is_due}
use Rattle.spec_demands.specs.Six.{room_told, bytes_told}
use Rattle.spec_demands.specs.What.{MoreBytes}

-- ---- a number of document 01's table, to which ticket 1 adds 14 and ticket 7 16

abbrev pub one_of : List ℕ → ℕ → Bool
one_of [] n = false
one_of (m ∷ ms) n = eqb n m || one_of ms n

-- those of the reader
abbrev pub read_numbers : List ℕ
read_numbers = 0 ∷ 1 ∷ 2 ∷ 3 ∷ 4 ∷ 5 ∷ 6 ∷ 7 ∷ 8 ∷ 9 ∷ 14 ∷ 16 ∷ []

pub read_numbered : (a : ReadAnswer) → one_of read_numbers (read_number a) ≡ true
read_numbered (read.Done head place) = refl
read_numbered (read.Room sizes) = refl
read_numbered (read.Refused unread.AtEnd) = refl
read_numbered (read.Refused unread.Unended) = refl
read_numbered (read.Refused unread.BadPlace) = refl
read_numbered (read.Refused unread.NoLocus) = refl
read_numbered (read.Refused unread.TwoDefinitions) = refl
read_numbered (read.Refused unread.NoSlashes) = refl
read_numbered (read.Refused unread.OtherLength) = refl
read_numbered (read.Refused unread.BadLetter) = refl
read_numbered (read.Refused unread.TooDeep) = refl
read_numbered (read.Refused unread.StrayLetter) = refl

pub written_numbered : (a : WriteAnswer) → one_of (0 ∷ 6 ∷ 10 ∷ 11 ∷ 12 ∷ 13 ∷ []) (write_number a) ≡ true
written_numbered (write.Done count) = refl
written_numbered (write.Room count) = refl
written_numbered (write.Refused unwritten.BadRooms) = refl
written_numbered (write.Refused unwritten.NoLayout) = refl
written_numbered (write.Refused unwritten.BadWidth) = refl
written_numbered (write.Refused unwritten.NotKept) = refl

-- ---- THE READER: a call on the slice s at a place, strict or not, with rooms `old`, which are then `new`

module _ (strict : Bool) (s : List ℕ) (at : ℕ) (old new : RowRooms) (a : ReadAnswer) (call : Answered strict s at (flat_rooms old) (flat_rooms new) a) where
  after : flat_rooms new ≡ rooms_after strict s at (flat_rooms old)
  after = rooms_after_lem strict s at (flat_rooms old) (flat_rooms new) a call

  -- with any number but 0 each lent room is what it was
  pub read_untouched : (read_number a ≡ 0 → ⊥) → new ≡ old
  read_untouched n = rows_tell new old (after ∙ after_same strict s at (flat_rooms old) (λ z. n (ap read_number call.is ∙ z)))

  -- any two answers that the contract permits are equal, and so are the rooms afterwards
  pub read_one : (new' : RowRooms) (a' : ReadAnswer) → Answered strict s at (flat_rooms old) (flat_rooms new') a' → (a ≡ a') × (new ≡ new')
  read_one new' a' other = (call.is ∙ sym other.is, rows_tell new new' (after ∙ sym (rooms_after_lem strict s at (flat_rooms old) (flat_rooms new') a' other)))

-- what the reader returns: any two results that its contract permits are equal, answer and line, and so are the rooms afterwards
pub reported_one : (strict : Bool) (s : List ℕ) (at : ℕ) (old new new' : RowRooms) (r r' : Reported) → ReadReported strict s at (flat_rooms old) (flat_rooms new) r →
    ReadReported strict s at (flat_rooms old) (flat_rooms new') r' → (r ≡ r') × (new ≡ new')
reported_one strict s at old new new' r r' call other =
    let e = read_one strict s at old new r.answer call.answered new' r'.answer other.answered in
    (told_equal s at r r' e.0 call.told other.told, e.1)

-- ---- THE WRITER, plain or keeping as `how` says: a call with the table of r and h, and a slice `old`, which is then `new`

module _ (how : How) (r : Rooms) (h : Head) (old new : List ℕ) (a : WriteAnswer) (call : WriteAnswered how r h old new a) where
  -- with any number but 0 the slice is what it was (the rooms are only read)
  pub written_untouched : (write_number a ≡ 0 → ⊥) → new ≡ old
  written_untouched n = call.slice ∙ slice_same a (text_due how (table_of r h)) old n

  -- any two answers that the contract permits are equal, and so are the slices afterwards
  pub written_one : (new' : List ℕ) (a' : WriteAnswer) → WriteAnswered how r h old new' a' → (a ≡ a') × (new ≡ new')
  written_one new' a' other =
      let e : a ≡ a' = call.is ∙ sym other.is in
      (e, call.slice ∙ (ap (λ (x : WriteAnswer). slice_after x (text_due how (table_of r h)) old) e ∙ sym other.slice))

  -- 6 EXACTLY WHEN THE CALL WOULD SUCCEED WITH MORE ROOM, with the count that makes it succeed and that a success then writes
  pub written_six : (k : ℕ) → (a ≡ write.Room k) ↔ MoreBytes how r h (length old) k
  written_six k = (room_told how r h old new a call k (what_is_due how r h), λ m. bytes_told how r h old new a call k (what_is_due how r h) m)

-- ---- THE BOUNDARY for C and Rust: the same of `vilggodan_read` and `vilggodan_write`, which return their answers by value

module _ (strict : Bool) (s : List ℕ) (at : ℕ) (old new : RowRooms) (told : Reading) (call : ReadTold strict s at (flat_rooms old) (flat_rooms new) told) where
  pub number_is : told.number ≡ read_number call.answer.answer
  number_is = ap (λ (x : Reading). x.number) call.is

  pub read_told_numbered : one_of read_numbers told.number ≡ true
  read_told_numbered = rw number_is (read_numbered call.answer.answer)

  pub read_told_one : (new' : RowRooms) (told' : Reading) → ReadTold strict s at (flat_rooms old) (flat_rooms new') told' → (told ≡ told') × (new ≡ new')
  read_told_one new' told' other =
      let e = reported_one strict s at old new new' call.answer other.answer call.answered other.answered in
      (call.is ∙ (ap (λ (x : Reported). reading at x) e.0 ∙ sym other.is), e.1)

module _ (how : How) (r : Rooms) (ns old new : List ℕ) (told : Writing) (call : WriteTold how r ns old new told) where
  pub wrote_is : told.number ≡ write_number call.answer
  wrote_is = ap (λ (x : Writing). x.number) call.is

  pub written_told_untouched : (told.number ≡ 0 → ⊥) → new ≡ old
  written_told_untouched n = written_untouched how r (head_from ns) old new call.answer call.answered (λ z. n (wrote_is ∙ z))

  pub written_told_one : (new' : List ℕ) (told' : Writing) → WriteTold how r ns old new' told' → (told ≡ told') × (new ≡ new')
  written_told_one new' told' other =
      let e = written_one how r (head_from ns) old new call.answer call.answered new' other.answer other.answered in
      (call.is ∙ (ap writing e.0 ∙ sym other.is), e.1)

  -- numbers that stand for no head (fewer than 33, or a length above 4,294,967,295) are refused by 10
  pub written_told_headless : head_from ns ≡ outside → width_fine how.width ≡ true → told.number ≡ 10
  written_told_headless e f =
      wrote_is ∙ (ap write_number call.answered.is ∙ rw e (no_head_lem how.keeping how.width how.truncate how.escape r (length old) f))

  pub written_told_six : (k : ℕ) → ((told.number ≡ 6) × (told.count ≡ k)) ↔ MoreBytes how r (head_from ns) (length old) k
  written_told_six k =
      let six = written_six how r (head_from ns) old new call.answer call.answered k in (
        (λ z. six.0 (room_of call.answer k (sym wrote_is ∙ z.0) (sym (ap (λ (x : Writing). x.count) call.is) ∙ z.1))),
        (λ m. let e = six.1 m in (wrote_is ∙ ap write_number e, ap (λ (x : Writing). x.count) call.is ∙ ap write_value e)),
      )

-- ---- THE FUNCTION BEHIND THE PROGRAMS: a record at a place of s, read into the rooms `old`, strictly or not, and written again to the slice `before`, which is then `after`

module _
    (strict : Bool) (s : List ℕ) (at : ℕ) (old : Rooms) (how : How) (t rf cm q lc l before after : List ℕ) (r : Reported) (w : WriteAnswer)
    (call : Rounds strict s at old how t rf cm q lc l before after r w) where
  -- any two results that the contract permits are equal, answers and line, and so are the slice and the rooms afterwards
  pub round_one : (t' rf' cm' q' lc' l' after' : List ℕ) (r' : Reported) (w' : WriteAnswer) → Rounds strict s at old how t' rf' cm' q' lc' l' before after' r' w' →
      (r ≡ r') × ((w ≡ w') × ((after ≡ after') × ((t ≡ t') × ((rf ≡ rf') × ((cm ≡ cm') × ((q ≡ q') × ((lc ≡ lc') × (l ≡ l'))))))))
  round_one t' rf' cm' q' lc' l' after' r' w' other =
      let e : r ≡ r' = told_equal s at r r' (call.is ∙ sym other.is) call.told other.told in
      let o : WriteAnswered (how_after r.answer how) (rooms_after strict s at old) (head_of r.answer) before after' w' =
      subst (λ (x : Reported). WriteAnswered (how_after x.answer how) (rooms_after strict s at old) (head_of x.answer) before after' w') (sym e) other.wrote in
      let v = written_one (how_after r.answer how) (rooms_after strict s at old) (head_of r.answer) before after w call.wrote after' w' o in (
        e,
        (
          v.0,
          (
            v.1,
            (
              call.texts_are ∙ sym other.texts_are,
              (
                call.references_are ∙ sym other.references_are,
                (
                  call.comments_are ∙ sym other.comments_are,
                  (call.qualifiers_are ∙ sym other.qualifiers_are, (call.locations_are ∙ sym other.locations_are, call.letters_are ∙ sym other.letters_are)),
                ),
              ),
            ),
          ),
        ),
      )

  -- where nothing is read the rooms are what they were
  pub round_unread : (read_number r.answer ≡ 0 → ⊥) →
      (t ≡ old.texts) × ((rf ≡ old.references) × ((cm ≡ old.comments) × ((q ≡ old.qualifiers) × ((lc ≡ old.locations) × (l ≡ old.letters)))))
  round_unread n =
      let e = after_same strict s at old (λ z. n (ap read_number call.is ∙ z)) in (
        call.texts_are ∙ ap (λ (x : Rooms). x.texts) e,
        (
          call.references_are ∙ ap (λ (x : Rooms). x.references) e,
          (
            call.comments_are ∙ ap (λ (x : Rooms). x.comments) e,
            (
              call.qualifiers_are ∙ ap (λ (x : Rooms). x.qualifiers) e,
              (call.locations_are ∙ ap (λ (x : Rooms). x.locations) e, call.letters_are ∙ ap (λ (x : Rooms). x.letters) e),
            ),
          ),
        ),
      )

  -- where nothing is read or nothing is written the slice is what it was
  pub round_unwritten : (write_number w ≡ 0 → ⊥) → after ≡ before
  round_unwritten n = written_untouched (how_after r.answer how) (rooms_after strict s at old) (head_of r.answer) before after w call.wrote n

  pub round_unread_unwritten : (read_number r.answer ≡ 0 → ⊥) → after ≡ before
  round_unread_unwritten n = round_unwritten (λ z. impossible (cc (z, width_none r.answer refl n)))
    where
      width_none : (x : ReadAnswer) → r.answer ≡ x → (read_number r.answer ≡ 0 → ⊥) → write_number w ≡ 12
      width_none (read.Done h place) e n = absurd (n (ap read_number e))
      width_none (read.Refused why) e n = ap write_number call.wrote.is ∙ rw e (no_width how.keeping how.truncate how.escape (rooms_after strict s at old) _ (length before))
      width_none (read.Room sizes) e n = ap write_number call.wrote.is ∙ rw e (no_width how.keeping how.truncate how.escape (rooms_after strict s at old) _ (length before))

  -- its two answers are the reader's and the writer's, so what is said of 6 above holds of them
  pub round_read : Answered strict s at old (rooms_after strict s at old) r.answer
  round_read = record { is = call.is; texts = refl; references = refl; comments = refl; features = refl; qualifiers = refl; locations = refl; letters = refl }

  pub round_reported : ReadReported strict s at old (rooms_after strict s at old) r
  round_reported = record { answered = round_read; told = call.told }
