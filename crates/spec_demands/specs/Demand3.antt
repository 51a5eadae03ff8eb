-- DEMAND 3, KEPT. The keeping writer, at any width from 60 to 132, refuses a well-formed table by number 13 exactly when a keeping rule is broken. If it writes, its bytes are the plain
-- writer's, and the reader, lent enough room and a text of at most 16,777,216 bytes, takes all of them and gives back the same table: each text, row, number and letter. With the strict
-- switch on that holds of "tables whose letters all have codes" (document 02, ticket 7): `letters_fit` asks so then, and nothing with the switch off.
-- Here is when 13 is answered, and that the bytes are the plain writer's; that the same table comes back is in proofs/Demand3.antt.
use Rattle.std.specs.Prelude.{ℕ, ◌≤◌, Bool, true, false, List, ◌↔◌, ◌≡◌, length}
use Rattle.std.proofs.Common.{sym, ap, subst, ◌∙◌}
use Rattle.spec_format.specs.Answers.{slice_after}
use Rattle.spec_format.specs.Keeping.{keeps}
use Rattle.spec_format.specs.Numbers.{write_number}
use Rattle.spec_format.specs.Rooms.{Rooms, table_of, rooms_fine}
use Rattle.spec_format.specs.WellFormed.{well_formed}
use Rattle.spec_format.specs.Write.{written}
use Rattle.spec_format.specs.declared.Head.{Head}
use Rattle.spec_format.specs.declared.How.{How}
use Rattle.spec_format.specs.declared.ReadAnswer.{ReadAnswer}
use Rattle.spec_format.specs.declared.WriteAnswer.{WriteAnswer}
use Rattle.spec_format.specs.declared.WriteAnswer.TheVariants as write
use Rattle.spec_promise.specs.Grounds.{zero_done, thirteen_not_kept}
use Rattle.spec_promise.specs.Promise.{thirteen_exactly, kept_as_plain, done_like_plain}
use Rattle.spec_contracts.specs.Numbers.{head_from}
use Rattle.spec_contracts.specs.Told.{how_of, writing, WriteTold}
use Rattle.spec_contracts.specs.Writes.{text_due, WriteAnswered}
use Rattle.spec_contracts.specs.declared.Writing.{Writing}
use Rattle.spec_demands.specs.What.{Same}

-- ---- THE WRITER, at width W with the two switches, and then THE READER

module _ (W : ℕ) (truncate escape : Bool) (r : Rooms) (h : Head) (old new : List ℕ) where
  -- 13 EXACTLY WHEN A KEEPING RULE IS BROKEN, for a well-formed table: neither 10 nor 11 is due
  pub thirteen : (a : WriteAnswer) → WriteAnswered (how_of true W truncate escape) r h old new a → 60 ≤ W → W ≤ 132 → rooms_fine r h ≡ true →
      well_formed W truncate escape (table_of r h) ≡ true → (write_number a ≡ 13) ↔ (keeps W truncate escape (table_of r h) ≡ false)
  thirteen a call l u f g =
      let by = thirteen_exactly W truncate escape r h (length old) l u f g in
      let to = thirteen_not_kept a in
      ((λ z. by.0 (sym call.is ∙ to.0 z)), (λ b. to.1 (call.is ∙ by.1 b)))

  -- THE BYTES ARE THE PLAIN WRITER'S: a plain call with the same slice ends alike
  pub as_plain : (k : ℕ) → WriteAnswered (how_of true W truncate escape) r h old new (write.Done k) → (a : WriteAnswer) (new' : List ℕ) →
      WriteAnswered (how_of false W truncate escape) r h old new' a → (a ≡ write.Done k) × (new' ≡ new)
  as_plain k call a new' plain =
      let p = done_like_plain W truncate escape r h old k (sym call.is) in
      let e : a ≡ write.Done k = plain.is ∙ p.0 in
      (e, plain.slice ∙ (ap (λ (x : WriteAnswer). slice_after x (written W truncate escape (table_of r h)) old) e ∙ sym call.slice))

  -- and where no rule is broken the two writers answer alike, whatever that is
  pub alike : keeps W truncate escape (table_of r h) ≡ true → (a b : WriteAnswer) (new' : List ℕ) → WriteAnswered (how_of true W truncate escape) r h old new a →
      WriteAnswered (how_of false W truncate escape) r h old new' b → (a ≡ b) × (new ≡ new')
  alike kept a b new' call plain =
      let e : a ≡ b = call.is ∙ (kept_as_plain W truncate escape r h (length old) kept ∙ sym plain.is) in
      (e, call.slice ∙ (ap (λ (x : WriteAnswer). slice_after x (written W truncate escape (table_of r h)) old) e ∙ sym plain.slice))

-- so it is written again as the same bytes, by either writer at any width
pub same_bytes : (how : How) (r : Rooms) (h : Head) (k : ℕ) (after : Rooms) (a : ReadAnswer) (x : Same r h k after a) → text_due how (table_of after x.head) ≡ text_due how (table_of r h)
same_bytes how r h k after a x = ap (text_due how) x.same

-- ---- THE BOUNDARY: `vilggodan_write` with `keep`, and then `vilggodan_read`

module _ (W : ℕ) (truncate escape : Bool) (r : Rooms) (ns old new : List ℕ) (w : Writing) (call : WriteTold (how_of true W truncate escape) r ns old new w) where
  number_is : w.number ≡ write_number call.answer
  number_is = ap (λ (x : Writing). x.number) call.is

  pub told_thirteen : 60 ≤ W → W ≤ 132 → rooms_fine r (head_from ns) ≡ true → well_formed W truncate escape (table_of r (head_from ns)) ≡ true →
      (w.number ≡ 13) ↔ (keeps W truncate escape (table_of r (head_from ns)) ≡ false)
  told_thirteen l u f g = rw number_is (thirteen W truncate escape r (head_from ns) old new call.answer call.answered l u f g)

  module _ (done : w.number ≡ 0) where
    done_is : call.answer ≡ write.Done w.count
    done_is = (zero_done call.answer w.count).0 (sym number_is ∙ done, sym (ap (λ (x : Writing). x.count) call.is))

    pub wrote : WriteAnswered (how_of true W truncate escape) r (head_from ns) old new (write.Done w.count)
    wrote = subst (λ (x : WriteAnswer). WriteAnswered (how_of true W truncate escape) r (head_from ns) old new x) done_is call.answered

    pub told_as_plain : (new' : List ℕ) (v : Writing) → WriteTold (how_of false W truncate escape) r ns old new' v → (v ≡ w) × (new' ≡ new)
    told_as_plain new' v plain =
        let p = as_plain W truncate escape r (head_from ns) old new w.count wrote plain.answer new' plain.answered in
        (plain.is ∙ (ap writing (p.0 ∙ sym done_is) ∙ sym call.is), p.1)
