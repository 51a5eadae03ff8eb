-- Why 6 is answered exactly when the call would succeed with more room: here where it would, and of the writer. What else is told of the reader is in proofs/Six.antt.
use Rattle.std.specs.Prelude.{ℕ, ◌≤◌, ◌<◌, Bool, true, false, List, ◌↔◌, ◌≡◌, refl, leb, replicate}
use Rattle.std.proofs.Math.Path.{sym}
use Rattle.std.proofs.Common.{ap, ◌∙◌, arith, le-leb, leb-true, leb-false}
use Rattle.std.proofs.Math.ListN.{length}
use Rattle.std.proofs.lemmas.List.{length-replicate}
use Rattle.spec_format.specs.Answers.{room, slice_after}
use Rattle.spec_format.specs.Bytes.{pick}
use Rattle.spec_format.specs.Impossible.{impossible}
use Rattle.spec_format.specs.Numbers.{read_number, write_number, write_value}
use Rattle.spec_format.specs.Record.{Outcome, was_read, not_read}
use Rattle.spec_format.specs.Rooms.{Rooms, sizes, fits, read_answer, rooms_after, table_of}
use Rattle.spec_format.specs.Strict.{read_by}
use Rattle.spec_format.specs.Table.{Table}
use Rattle.spec_format.specs.declared.Head.{Head}
use Rattle.spec_format.specs.declared.How.{How}
use Rattle.spec_format.specs.declared.ReadAnswer.{ReadAnswer}
use Rattle.spec_format.specs.declared.Sizes.{Sizes}
use Rattle.spec_format.specs.declared.WriteAnswer.{WriteAnswer}
use Rattle.spec_format.specs.declared.WriteAnswer.TheVariants as write
use Rattle.spec_contracts.specs.Reads.{Answered}
use Rattle.spec_contracts.specs.Writes.{answer_due, text_due, WriteAnswered}
use Rattle.spec_demands.specs.Answers.{unread_not_zero, answer_number, answer_not, rooms_for, rooms_for_fit}
use Rattle.spec_demands.specs.Answers.{unwritten_not_zero, Due, never, by_room, room_number}
use Rattle.spec_demands.specs.What.{MoreRoom, MoreBytes}

-- ---- reading

module _ (strict : Bool) (s : List ℕ) (at : ℕ) (old new : Rooms) (a : ReadAnswer) (call : Answered strict s at old new a) where
  pub number_fits : (t : Table) (rest : List ℕ) (b : Bool) → read_by strict s at ≡ was_read t rest → fits (sizes t) old ≡ b → read_number a ≡ pick b 0 6
  number_fits t rest b e f = ap read_number call.is ∙ answer_number strict s at old t rest b e f

  any_call : (q : Rooms) → Answered strict s at q (rooms_after strict s at q) (read_answer strict s at q)
  any_call q = record { is = refl; texts = refl; references = refl; comments = refl; features = refl; qualifiers = refl; locations = refl; letters = refl }

  pub more_six : (n : Sizes) → MoreRoom strict s at old n → read_number a ≡ 6
  more_six n m = go (read_by strict s at) refl
    where
      fitted : (t : Table) (rest : List ℕ) → read_by strict s at ≡ was_read t rest → (b : Bool) → fits (sizes t) old ≡ b → read_number a ≡ 6
      fitted t rest e true f =
          let x : fits n old ≡ true = (m.exact old new a call).0 (number_fits t rest true e f) in
          let y : fits n old ≡ false = m.short in
          impossible cc
      fitted t rest e false f = number_fits t rest false e f

      go : (o : Outcome) → read_by strict s at ≡ o → read_number a ≡ 6
      go (was_read t rest) e = fitted t rest e (fits (sizes t) old) refl
      go (not_read why) e =
          absurd (unread_not_zero why (sym (answer_not strict s at (rooms_for n) why e) ∙ (m.exact (rooms_for n) _ _ (any_call (rooms_for n))).1 (rooms_for_fit n)))

-- ---- writing

room_zero : (n k : ℕ) → (write_number (room n k) ≡ 0) ↔ (k ≤ n)
room_zero n k = (to (leb k n) refl, λ l. room_number n k true (le-leb k n l))
  where
    to : (b : Bool) → leb k n ≡ b → write_number (room n k) ≡ 0 → k ≤ n
    to true e z = leb-true k n e
    to false e z = let x = room_number n k false e in impossible cc

room_counted : (n k : ℕ) → write_value (room n k) ≡ k
room_counted n k = go (leb k n)
  where
    go : (b : Bool) → write_value (pick b (write.Done k) (write.Room k)) ≡ k
    go true = refl
    go false = refl

room_short : (n k : ℕ) → n < k → room n k ≡ write.Room k
room_short n k l = go (leb k n) refl
  where
    go : (b : Bool) → leb k n ≡ b → room n k ≡ write.Room k
    go true e = let x = leb-true k n e in absurd (omega arith)
    go false e = rw e

module _ (how : How) (r : Rooms) (h : Head) where
  more_bytes : (k : ℕ) → ((n : ℕ) → answer_due how r h n ≡ room n k) → (n : ℕ) → n < k → MoreBytes how r h n k
  more_bytes k due n l =
      record {
        short = l;
        exact = λ more after a c.
            let e : a ≡ room (length more) k = c.is ∙ due (length more) in
            let b = room_zero (length more) k in
            ((λ z. b.0 (sym (ap write_number e) ∙ z)), (λ g. ap write_number e ∙ b.1 g));
        counted = λ more after a c z. ap write_value (c.is ∙ due (length more)) ∙ room_counted (length more) k;
      }

  module _ (old new : List ℕ) (a : WriteAnswer) (call : WriteAnswered how r h old new a) (k : ℕ) where
    -- a call lent k bytes
    long : length (replicate {A = ℕ} k 0) ≡ k
    long = length-replicate {A = ℕ} k 0

    due_then : WriteAnswer
    due_then = answer_due how r h (length (replicate {A = ℕ} k 0))

    some_call : WriteAnswered how r h (replicate k 0) (slice_after due_then (text_due how (table_of r h)) (replicate k 0)) due_then
    unfolding due_then
    some_call = record { is = refl; slice = refl; fits = call.fits }

    pub room_told : Due (answer_due how r h) (length (text_due how (table_of r h))) → a ≡ write.Room k → MoreBytes how r h (length old) k
    room_told (never why e) z = let x : a ≡ write.Refused why = call.is ∙ e (length old) in impossible cc
    room_told (by_room e) z = go (leb (length (text_due how (table_of r h))) (length old)) refl
      where
        go : (b : Bool) → leb (length (text_due how (table_of r h))) (length old) ≡ b → MoreBytes how r h (length old) k
        go true f = let x : a ≡ room (length old) (length (text_due how (table_of r h))) = call.is ∙ e (length old) in impossible cc
        go false f =
            let x : a ≡ room (length old) (length (text_due how (table_of r h))) = call.is ∙ e (length old) in
            let y : write.Room k ≡ write.Room (length (text_due how (table_of r h))) = sym z ∙ (x ∙ rw f) in
            let v : k ≡ length (text_due how (table_of r h)) = cc in
            rw v (more_bytes (length (text_due how (table_of r h))) e (length old) (leb-false _ (length old) f))

    pub bytes_told : Due (answer_due how r h) (length (text_due how (table_of r h))) → MoreBytes how r h (length old) k → a ≡ write.Room k
    unfolding due_then
    bytes_told (never why e) m =
        let z : write_number due_then ≡ 0 = (m.exact _ _ _ some_call).1 (omega (arith, long)) in
        absurd (unwritten_not_zero why (sym (ap write_number (e (length (replicate {A = ℕ} k 0)))) ∙ z))
    bytes_told (by_room e) m =
        let z : write_number due_then ≡ 0 = (m.exact _ _ _ some_call).1 (omega (arith, long)) in
        let v : length (text_due how (table_of r h)) ≡ k =
        sym (room_counted (length (replicate {A = ℕ} k 0)) _) ∙ (sym (ap write_value (e (length (replicate {A = ℕ} k 0)))) ∙ m.counted _ _ _ some_call z) in
        call.is ∙ (e (length old) ∙ rw v (room_short (length old) k m.short))
