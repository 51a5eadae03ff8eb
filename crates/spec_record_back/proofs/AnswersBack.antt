-- The round trip by the answers that calls give: a slice that the keeping writer has filled is read as the table of its rooms.
use Prim.Native.Nat.{ℕ, ◌-◌}
use Rattle.std.proofs.Common.{arith, sym, take_at}
use Rattle.std.specs.Prelude.{Bool, ◌≡◌, drop}
use Rattle.std.proofs.Math.Bool.{true, false}
use Rattle.std.proofs.Math.Path.{refl, ap}
use mathlib.Core.List.{List, []}
use Rattle.std.proofs.Math.ListN.{length, take}
use Rattle.std.proofs.Math.Dec.{leb}
use Rattle.spec_format.specs.Bytes.{pick}
use Rattle.spec_format.specs.Record.{was_read, most, read_at}
use Rattle.spec_format.specs.Write.{written}
use Rattle.spec_format.specs.WellFormed.{width_fine, well_formed}
use Rattle.spec_format.specs.Keeping.{keeps}
use Rattle.spec_format.specs.Rooms.{Rooms, table_of, locations_read, rooms_fine, sizes, fits, head_of, answer_of, read_answer}
use Rattle.spec_format.specs.Strict.{read_by, letters_fit}
use Rattle.spec_format.specs.Answers.{keeping_answer, slice_after}
use Rattle.spec_format.specs.declared.Head.{Head}
use Rattle.spec_format.specs.declared.ReadAnswer.TheVariants as read
use Rattle.spec_format.specs.declared.WriteAnswer.TheVariants as answer
use Rattle.spec_strict.specs.Switch.{reads_alike}
use Rattle.spec_rooms.specs.LocationRows.{fine_read}
use Rattle.spec_texts_back.specs.Tests.{and_both}
use Rattle.spec_record_back.specs.LocusBack.{length_fits}
use Rattle.spec_record_back.proofs.RecordsBack.{kept_alone}
use Rattle.spec_format.specs.Impossible.{impossible}

module _ (W : ℕ) (truncate escape : Bool) (r : Rooms) (h : Head) where
  -- what an answer 0 of the keeping writer says
  record Kept (k : ℕ) : Type 0 where
    width : width_fine W ≡ true
    rooms : rooms_fine r h ≡ true
    laid_out : well_formed W truncate escape (table_of r h) ≡ true
    rules : keeps W truncate escape (table_of r h) ≡ true
    count : k ≡ length (written W truncate escape (table_of r h))

  answered : (n k : ℕ) → keeping_answer W truncate escape r h n ≡ answer.Done k → Kept k
  unfolding keeping_answer
  answered n k e =
      go (width_fine W) refl (rooms_fine r h) refl (well_formed W truncate escape (table_of r h)) refl (keeps W truncate escape (table_of r h)) refl
      (leb (length (written W truncate escape (table_of r h))) n) refl
    where
      go :
          (a : Bool) → width_fine W ≡ a → (b : Bool) → rooms_fine r h ≡ b → (c : Bool) → well_formed W truncate escape (table_of r h) ≡ c → (d : Bool) →
          keeps W truncate escape (table_of r h) ≡ d → (f : Bool) → leb (length (written W truncate escape (table_of r h))) n ≡ f → Kept k
      go true p true q true s true u true v = record { width = p; rooms = q; laid_out = s; rules = u; count = cc }
      go true p true q true s true u false v = impossible cc
      go true p true q true s false u f v = impossible cc
      go true p true q false s d u f v = impossible cc
      go true p false q c s d u f v = impossible cc
      go false p b q c s d u f v = impossible cc

  -- the bytes that the answer counts are those that are written
  filled : (old : List ℕ) (k : ℕ) → Kept k → take k (slice_after (answer.Done k) (written W truncate escape (table_of r h)) old) ≡ written W truncate escape (table_of r h)
  filled old k a =
      let new : List ℕ = written W truncate escape (table_of r h) in
      take_at new (drop (length new) old) k (sym a.count)

  -- WHAT THE KEEPING WRITER HAS WRITTEN is read as the table that its rooms hold
  pub answer_back :
      (old : List ℕ) (k : ℕ) → keeping_answer W truncate escape r h (length old) ≡ answer.Done k → length_fits (table_of r h) ≡ true → leb k most ≡ true →
      read_at (take k (slice_after (answer.Done k) (written W truncate escape (table_of r h)) old)) 0 ≡ was_read (table_of r h) []
  answer_back old k e n m =
      let a : Kept k = answered (length old) k e in
      rw (filled old k a)
      (kept_alone W truncate escape a.width (table_of r h)
      (and_both (well_formed W truncate escape (table_of r h)) _ a.laid_out
      (and_both (keeps W truncate escape (table_of r h)) _ a.rules (and_both (locations_read (table_of r h)) _ (fine_read r h a.rooms) n)))
      (rw a.count at m))

  -- with the switch on too, where its letters all have codes
  pub answer_alike :
      (strict : Bool) (old : List ℕ) (k : ℕ) → keeping_answer W truncate escape r h (length old) ≡ answer.Done k → length_fits (table_of r h) ≡ true →
      leb k most ≡ true → letters_fit strict (table_of r h) ≡ true →
      read_by strict (take k (slice_after (answer.Done k) (written W truncate escape (table_of r h)) old)) 0 ≡ was_read (table_of r h) []
  answer_alike strict old k e n m c =
      reads_alike strict (take k (slice_after (answer.Done k) (written W truncate escape (table_of r h)) old)) 0 (table_of r h) [] (answer_back old k e n m) c

  -- and so the reader answers with that table, where it fits the rooms lent, all bytes taken, or with the sizes that it needs
  pub answer_read :
      (strict : Bool) (old : List ℕ) (k : ℕ) (lent : Rooms) → keeping_answer W truncate escape r h (length old) ≡ answer.Done k →
      length_fits (table_of r h) ≡ true → leb k most ≡ true → letters_fit strict (table_of r h) ≡ true →
      read_answer strict (take k (slice_after (answer.Done k) (written W truncate escape (table_of r h)) old)) 0 lent ≡
      pick (fits (sizes (table_of r h)) lent) (read.Done (head_of (table_of r h)) k) (read.Room (sizes (table_of r h)))
  unfolding read_answer answer_of
  answer_read strict old k lent e n m c =
      let a : Kept k = answered (length old) k e in
      let s : List ℕ = take k (slice_after (answer.Done k) (written W truncate escape (table_of r h)) old) in
      let l : length s - 0 ≡ k = omega (arith, ap length (filled old k a), a.count) in
      rw (answer_alike strict old k e n m c, l)
