-- DEMANDS OF TICKET 7, THE STRICT SWITCH: what it changes of a call of the reader, the boundary and the function behind the programs, and what it leaves. Each statement can be read without
-- its proof. `StrayThere s at` says that the reading comes to letters and that among them, ahead of the `/` and of any byte that is 9, stands one without a code (crates/spec_strict, Switch.antt).
use Rattle.std.specs.Prelude.{ℕ, true, false, List, [], ◌∷◌, ◌↔◌, ◌≡◌, length, drop}
use Rattle.std.proofs.Common.{sym, ap, ◌∙◌}
use Rattle.spec_format.specs.Bytes.{is}
use Rattle.spec_format.specs.Impossible.{impossible}
use Rattle.spec_format.specs.Numbers.{read_number}
use Rattle.spec_format.specs.Record.{read_at}
use Rattle.spec_format.specs.Rooms.{Rooms, answer_of, rooms_of, rooms_after}
use Rattle.spec_format.specs.Strict.{stray_in, read_by}
use Rattle.spec_format.specs.declared.How.{How}
use Rattle.spec_format.specs.declared.ReadAnswer.{ReadAnswer}
use Rattle.spec_format.specs.declared.Unread.TheVariants as unread
use Rattle.spec_format.specs.declared.WriteAnswer.{WriteAnswer}
use Rattle.spec_strict.specs.Switch.{off_answer, off_rooms, StrayThere, sixteen}
use Rattle.spec_contracts.specs.Equal.{rooms_after_lem}
use Rattle.spec_contracts.specs.Reads.{Answered, ReadReported, RowRooms, flat_rooms}
use Rattle.spec_contracts.specs.Rounds.{Rounds}
use Rattle.spec_contracts.specs.Told.{ReadTold}
use Rattle.spec_contracts.specs.declared.Reading.{Reading}
use Rattle.spec_contracts.specs.declared.Reported.{Reported}
use Rattle.spec_demands.specs.Answers.{answer_not}
use Rattle.spec_demands.specs.Demand1.{one_of, reported_one, read_told_one}
use Rattle.spec_demands.specs.Lines.{line_told}
use Rattle.spec_demands.specs.Stray.{number_stray, off_numbers, stray_rest, but_sixteen, but_late, reported_off, told_off, rounds_off}
use Rattle.spec_demands.specs.What.{LineTold}

-- ---- THE READER WITH THE SWITCH OFF

-- The contract is the one of before: answer and rooms are those of the reading that knows no switch, and nothing else is asked. What other contracts add, the line and the numbers of the
-- answer, does not speak of the switch.
pub off_as_before : (s : List ℕ) (at : ℕ) (old new : Rooms) (a : ReadAnswer) →
    Answered false s at old new a ↔ ((a ≡ answer_of (length s) old (read_at s at)) × (new ≡ rooms_of old (read_at s at)))
off_as_before s at old new a = (to, back)
  where
    to : Answered false s at old new a → (a ≡ answer_of (length s) old (read_at s at)) × (new ≡ rooms_of old (read_at s at))
    to call = (call.is ∙ off_answer s at old, rooms_after_lem false s at old new a call ∙ off_rooms s at old)

    back : (a ≡ answer_of (length s) old (read_at s at)) × (new ≡ rooms_of old (read_at s at)) → Answered false s at old new a
    back h =
        let e : new ≡ rooms_after false s at old = h.1 ∙ sym (off_rooms s at old) in
        record {
          is = h.0 ∙ sym (off_answer s at old);
          texts = ap (λ (x : Rooms). x.texts) e;
          references = ap (λ (x : Rooms). x.references) e;
          comments = ap (λ (x : Rooms). x.comments) e;
          features = ap (λ (x : Rooms). x.features) e;
          qualifiers = ap (λ (x : Rooms). x.qualifiers) e;
          locations = ap (λ (x : Rooms). x.locations) e;
          letters = ap (λ (x : Rooms). x.letters) e;
        }

-- The number is one of those of before: 16 is not answered.
pub off_numbered : (s : List ℕ) (at : ℕ) (old new : Rooms) (a : ReadAnswer) → Answered false s at old new a →
    one_of (0 ∷ 1 ∷ 2 ∷ 3 ∷ 4 ∷ 5 ∷ 6 ∷ 7 ∷ 8 ∷ 9 ∷ 14 ∷ []) (read_number a) ≡ true
off_numbered s at old new a call = rw call.is (off_numbers s at old)

-- ---- THE READER WITH THE SWITCH ON: number 16

module _ (s : List ℕ) (at : ℕ) (old new : Rooms) (r : Reported) (call : ReadReported true s at old new r) where
  -- 16 is answered EXACTLY where a stray letter stands.
  pub sixteen_exactly : (read_number r.answer ≡ 16) ↔ StrayThere s at
  sixteen_exactly =
      let e = ap read_number call.answered.is in
      ((λ z. (sixteen s at).0 (number_stray true s at old (sym e ∙ z))), (λ k. e ∙ answer_not true s at old unread.StrayLetter ((sixteen s at).1 k)))

  -- It comes with the line of that letter.
  pub sixteen_line : read_number r.answer ≡ 16 → (told : LineTold s at r.answer r.spot.line r.spot.offset) × (stray_in (drop at s) ≡ is told.rest)
  sixteen_line z =
      let t = line_told true s at old new r call (rw z) in
      let k = sixteen_exactly.0 z in
      (t, stray_rest r.answer (drop at s) k.from t.rest z k.stands t.trouble)

-- ---- THE READER WITH THE SWITCH ON AND WITH IT OFF: two calls on the same slice, place and rooms, the first one strict

module _
    (s : List ℕ) (at : ℕ) (old new new' : RowRooms) (r r' : Reported) (on : ReadReported true s at (flat_rooms old) (flat_rooms new) r)
    (off : ReadReported false s at (flat_rooms old) (flat_rooms new') r') where
  alike : read_by true s at ≡ read_by false s at → (r ≡ r') × (new ≡ new')
  alike e = reported_one false s at old new new' r r' (reported_off s at e (flat_rooms old) (flat_rooms new) r on) off

  -- Whatever the strict call answers but 16, the other answers too: the same number, 6 with the same sizes, and the same line. The rooms afterwards are the same.
  pub other_as_off : (read_number r.answer ≡ 16 → ⊥) → (r ≡ r') × (new ≡ new')
  other_as_off n = alike (but_sixteen s at (flat_rooms old) (λ k. n (ap read_number on.answered.is ∙ k)))

  -- So where the strict call is done, the other is: with the same head, place and rooms.
  pub strict_as_off : read_number r.answer ≡ 0 → (r ≡ r') × (new ≡ new')
  strict_as_off z = other_as_off (λ k. impossible cc)

  -- 16 is answered in the place of 0 and 6 only, where a record is read, and of 2, 7, 8 and 9, whose trouble lies in the letters or after them. Whatever else the call with the switch off
  -- answers, the strict one answers too.
  pub early_as_off : one_of (0 ∷ 2 ∷ 6 ∷ 7 ∷ 8 ∷ 9 ∷ []) (read_number r'.answer) ≡ false → (r ≡ r') × (new ≡ new')
  early_as_off n = alike (but_late s at (flat_rooms old) (rw off.answered.is at n))

-- ---- THE BOUNDARY for C and Rust: the same of `vilggodan_read`

-- With the switch off the number is one of those of before.
pub told_off_numbered : (s : List ℕ) (at : ℕ) (old new : Rooms) (told : Reading) → ReadTold false s at old new told →
    one_of (0 ∷ 1 ∷ 2 ∷ 3 ∷ 4 ∷ 5 ∷ 6 ∷ 7 ∷ 8 ∷ 9 ∷ 14 ∷ []) told.number ≡ true
told_off_numbered s at old new told call =
    rw (ap (λ (x : Reading). x.number) call.is) (off_numbered s at old new call.answer.answer call.answered.answered)

module _ (s : List ℕ) (at : ℕ) (old new : Rooms) (told : Reading) (call : ReadTold true s at old new told) where
  number_is : told.number ≡ read_number call.answer.answer
  number_is = ap (λ (x : Reading). x.number) call.is

  -- With the switch on it is 16 EXACTLY where a stray letter stands.
  pub told_sixteen_exactly : (told.number ≡ 16) ↔ StrayThere s at
  told_sixteen_exactly = rw number_is (sixteen_exactly s at old new call.answer call.answered)

  -- Line and offset are then those of that letter.
  pub told_sixteen_line : told.number ≡ 16 → (x : LineTold s at call.answer.answer told.line told.offset) × (stray_in (drop at s) ≡ is x.rest)
  told_sixteen_line z = rw call.is (sixteen_line s at old new call.answer call.answered (sym number_is ∙ z))

module _
    (s : List ℕ) (at : ℕ) (old new new' : RowRooms) (told told' : Reading) (on : ReadTold true s at (flat_rooms old) (flat_rooms new) told)
    (off : ReadTold false s at (flat_rooms old) (flat_rooms new') told') where
  on_is : told.number ≡ read_number on.answer.answer
  on_is = ap (λ (x : Reading). x.number) on.is

  told_alike : read_by true s at ≡ read_by false s at → (told ≡ told') × (new ≡ new')
  told_alike e = read_told_one false s at old new told (told_off s at e (flat_rooms old) (flat_rooms new) told on) new' told' off

  -- Whatever the strict call returns but 16, the other returns too, number for number, and leaves the same rooms.
  pub told_other_as_off : (told.number ≡ 16 → ⊥) → (told ≡ told') × (new ≡ new')
  told_other_as_off n = told_alike (but_sixteen s at (flat_rooms old) (λ k. n (on_is ∙ (ap read_number on.answered.answered.is ∙ k))))

  -- So where the strict call is done, the other is: with the same head, place and rooms.
  pub told_strict_as_off : told.number ≡ 0 → (told ≡ told') × (new ≡ new')
  told_strict_as_off z = told_other_as_off (λ k. impossible cc)

  -- And whatever the call with the switch off returns but 0, 2, 6, 7, 8 or 9, the strict one returns too.
  pub told_early_as_off : one_of (0 ∷ 2 ∷ 6 ∷ 7 ∷ 8 ∷ 9 ∷ []) told'.number ≡ false → (told ≡ told') × (new ≡ new')
  told_early_as_off n =
      let e = ap (λ (x : Reading). x.number) off.is ∙ ap read_number off.answered.answered.is in
      told_alike (but_late s at (flat_rooms old) (rw e at n))

-- ---- THE FUNCTION BEHIND THE PROGRAMS

-- Where a strict call answers another number than 16, it keeps the contract of a call with the switch off: so both read, write and leave the same (`round_one` of Demand1.antt).
pub round_as_off : (s : List ℕ) (at : ℕ) (old : Rooms) (how : How) (t rf cm q lc l before after : List ℕ) (r : Reported) (w : WriteAnswer) →
    Rounds true s at old how t rf cm q lc l before after r w → (read_number r.answer ≡ 16 → ⊥) → Rounds false s at old how t rf cm q lc l before after r w
round_as_off s at old how t rf cm q lc l before after r w call n =
    rounds_off s at (but_sixteen s at old (λ k. n (ap read_number call.is ∙ k))) old how t rf cm q lc l before after r w call
