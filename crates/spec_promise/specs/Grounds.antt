-- Why the promises hold: the longer proofs that Promise.antt cites.
use Rattle.std.specs.Prelude.{ℕ, ◌-◌, ◌<◌, ◌≤◌, Bool, ◌↔◌, ◌≡◌, length, take, leb, Option, Some, None}
use Rattle.std.proofs.Common.{arith, ap, sym, ◌∙◌, le-leb}
use Rattle.std.proofs.Math.Bool.{true, false}
use Rattle.std.proofs.Math.Path.{refl}
use mathlib.Core.List.{List, []}
use Rattle.spec_format.specs.Bytes.{pick, May, absent, is}
use Rattle.spec_format.specs.Table.{Table}
use Rattle.spec_format.specs.Record.{Outcome, was_read, not_read, most, read_at}
use Rattle.spec_format.specs.Strict.{read_by, letters_fit}
use Rattle.spec_format.specs.Write.{written}
use Rattle.spec_format.specs.WellFormed.{width_fine, if_is, well_formed}
use Rattle.spec_format.specs.Keeping.{keeps}
use Rattle.spec_format.specs.Rooms.{Rooms, table_of, locations_read, lengths_fine, rooms_fine, sizes, fits, head_of, may_length, layout, over_rooms, answer_of, read_answer, rooms_of, rooms_after}
use Rattle.spec_format.specs.Answers.{room, keeping_answer, plain_answer, slice_after}
use Rattle.spec_format.specs.Numbers.{write_number, write_value}
use Rattle.spec_format.specs.declared.Head.{Head}
use Rattle.spec_format.specs.declared.ReadAnswer.TheVariants as read
use Rattle.spec_format.specs.declared.Unwritten.{Unwritten}
use Rattle.spec_format.specs.declared.Unwritten.TheVariants as unwritten
use Rattle.spec_format.specs.declared.WriteAnswer.{WriteAnswer}
use Rattle.spec_format.specs.declared.WriteAnswer.TheVariants as answer
use Rattle.spec_strict.specs.Switch.{as_read}
use Rattle.spec_record_back.specs.LocusBack.{length_fits}
use Rattle.spec_record_back.specs.RecordsBack.{keepable}
use Rattle.spec_record_back.proofs.AnswersBack.{answer_alike, answer_read}
use Rattle.spec_rooms.proofs.LayoutBack.{layout_back}
use Rattle.spec_rooms.proofs.LayoutFine.{layout_fine}
use Rattle.spec_rooms.specs.ReadRows.{read_rows}
use Rattle.spec_format.specs.Impossible.{impossible}

-- ---- the premises, as tests

pub width_fine_lem : (W : ℕ) → 60 ≤ W → W ≤ 132 → width_fine W ≡ true
width_fine_lem W l u = rw (le-leb 60 W l, le-leb W 132 u)

pub length_fits_lem : (t : Table) → ((n : ℕ) → t.locus.length ≡ is n → n < 4294967296) → length_fits t ≡ true
length_fits_lem t h = go t.locus.length refl
  where
    go : (o : May ℕ) → t.locus.length ≡ o → if_is (λ n. leb n 4294967295) o ≡ true
    go absent e = refl
    go (is n) e = let l : n < 4294967296 = h n e in le-leb n 4294967295 (omega arith)

pub head_length_fits : (r : Rooms) (h : Head) → ((n : ℕ) → h.length ≡ Some n → n < 4294967296) → length_fits (table_of r h) ≡ true
unfolding table_of
head_length_fits r h f = go h.length refl
  where
    go : (o : Option ℕ) → h.length ≡ o → if_is (λ n. leb n 4294967295) (may_length o) ≡ true
    go None e = refl
    go (Some n) e = let l : n < 4294967296 = f n e in le-leb n 4294967295 (omega arith)

pub can_keep :
    (W : ℕ) (truncate escape : Bool) (t : Table) → well_formed W truncate escape t ≡ true → keeps W truncate escape t ≡ true → locations_read t ≡ true →
    length_fits t ≡ true → keepable W truncate escape t ≡ true
can_keep W truncate escape t f k p n = rw (f, k, p, n)

-- ---- the two writers

not_refused : (n k : ℕ) (why : Unwritten) → room n k ≡ answer.Refused why → ⊥
not_refused n k why e = go (leb k n) refl
  where
    go : (b : Bool) → leb k n ≡ b → ⊥
    go true p = impossible cc
    go false p = impossible cc

module _ (W : ℕ) (truncate escape : Bool) (r : Rooms) (h : Head) (n : ℕ) where
  pub as_plain : keeps W truncate escape (table_of r h) ≡ true → keeping_answer W truncate escape r h n ≡ plain_answer W truncate escape r h n
  unfolding keeping_answer plain_answer
  as_plain e = rw e

  pub refused_by_rule :
      width_fine W ≡ true → rooms_fine r h ≡ true → well_formed W truncate escape (table_of r h) ≡ true → keeps W truncate escape (table_of r h) ≡ false →
      keeping_answer W truncate escape r h n ≡ answer.Refused unwritten.NotKept
  unfolding keeping_answer
  refused_by_rule a b c d = rw (a, b, c, d)

  pub rule_broken : keeping_answer W truncate escape r h n ≡ answer.Refused unwritten.NotKept → keeps W truncate escape (table_of r h) ≡ false
  unfolding keeping_answer
  rule_broken e =
      go (width_fine W) refl (rooms_fine r h) refl (well_formed W truncate escape (table_of r h)) refl (keeps W truncate escape (table_of r h)) refl
    where
      go :
          (a : Bool) → width_fine W ≡ a → (b : Bool) → rooms_fine r h ≡ b → (c : Bool) → well_formed W truncate escape (table_of r h) ≡ c → (d : Bool) →
          keeps W truncate escape (table_of r h) ≡ d → keeps W truncate escape (table_of r h) ≡ false
      go true p true q true s false u = u
      go true p true q true s true u = absurd (not_refused n (length (written W truncate escape (table_of r h))) unwritten.NotKept (cc))
      go true p true q false s d u = impossible cc
      go true p false q c s d u = impossible cc
      go false p b q c s d u = impossible cc

  done_keeps : (k : ℕ) → keeping_answer W truncate escape r h n ≡ answer.Done k → keeps W truncate escape (table_of r h) ≡ true
  unfolding keeping_answer
  done_keeps k e =
      go (width_fine W) refl (rooms_fine r h) refl (well_formed W truncate escape (table_of r h)) refl (keeps W truncate escape (table_of r h)) refl
    where
      go :
          (a : Bool) → width_fine W ≡ a → (b : Bool) → rooms_fine r h ≡ b → (c : Bool) → well_formed W truncate escape (table_of r h) ≡ c → (d : Bool) →
          keeps W truncate escape (table_of r h) ≡ d → keeps W truncate escape (table_of r h) ≡ true
      go true p true q true s true u = u
      go true p true q true s false u = impossible cc
      go true p true q false s d u = impossible cc
      go true p false q c s d u = impossible cc
      go false p b q c s d u = impossible cc

  pub done_as_plain : (k : ℕ) → keeping_answer W truncate escape r h n ≡ answer.Done k → plain_answer W truncate escape r h n ≡ answer.Done k
  done_as_plain k e = sym (as_plain (done_keeps k e)) ∙ e

-- ---- numbers

pub zero_done : (a : WriteAnswer) (k : ℕ) → ((write_number a ≡ 0) × (write_value a ≡ k)) ↔ (a ≡ answer.Done k)
zero_done a k = (to a, back)
  where
    to : (a : WriteAnswer) → ((write_number a ≡ 0) × (write_value a ≡ k)) → a ≡ answer.Done k
    to (answer.Done n) h = ap answer.Done h.1
    to (answer.Room n) h = let z : ◌≡◌ {A = ℕ} 6 0 = h.0 in absurd (omega arith)
    to (answer.Refused unwritten.BadRooms) h = let z : ◌≡◌ {A = ℕ} 10 0 = h.0 in absurd (omega arith)
    to (answer.Refused unwritten.NoLayout) h = let z : ◌≡◌ {A = ℕ} 11 0 = h.0 in absurd (omega arith)
    to (answer.Refused unwritten.BadWidth) h = let z : ◌≡◌ {A = ℕ} 12 0 = h.0 in absurd (omega arith)
    to (answer.Refused unwritten.NotKept) h = let z : ◌≡◌ {A = ℕ} 13 0 = h.0 in absurd (omega arith)

    back : a ≡ answer.Done k → (write_number a ≡ 0) × (write_value a ≡ k)
    back e = (ap write_number e, ap write_value e)

pub thirteen_not_kept : (a : WriteAnswer) → (write_number a ≡ 13) ↔ (a ≡ answer.Refused unwritten.NotKept)
thirteen_not_kept a = (to a, λ e. ap write_number e)
  where
    to : (a : WriteAnswer) → write_number a ≡ 13 → a ≡ answer.Refused unwritten.NotKept
    to (answer.Done n) h = let z : ◌≡◌ {A = ℕ} 0 13 = h in absurd (omega arith)
    to (answer.Room n) h = let z : ◌≡◌ {A = ℕ} 6 13 = h in absurd (omega arith)
    to (answer.Refused unwritten.BadRooms) h = let z : ◌≡◌ {A = ℕ} 10 13 = h in absurd (omega arith)
    to (answer.Refused unwritten.NoLayout) h = let z : ◌≡◌ {A = ℕ} 11 13 = h in absurd (omega arith)
    to (answer.Refused unwritten.BadWidth) h = let z : ◌≡◌ {A = ℕ} 12 13 = h in absurd (omega arith)
    to (answer.Refused unwritten.NotKept) h = refl

-- ---- over rooms

after_read :
    (strict : Bool) (s : List ℕ) (at : ℕ) (q : Rooms) (t : Table) (rest : List ℕ) → read_by strict s at ≡ was_read t rest → fits (sizes t) q ≡ true →
    rooms_after strict s at q ≡ over_rooms (layout t) q
unfolding rooms_after rooms_of
after_read strict s at q t rest e f = rw (e, f)

module _ (strict : Bool) (s : List ℕ) (at : ℕ) (q : Rooms) (h : Head) (place : ℕ) where
  -- what a reader's answer 0 says
  pub record DoneBy : Type 0 where
    pub table : Table
    pub rest : List ℕ
    pub reads : read_by strict s at ≡ was_read table rest
    pub fit : fits (sizes table) q ≡ true
    pub answered : h ≡ head_of table
    pub ended : place ≡ length s - length rest

  pub done_by : read_answer strict s at q ≡ read.Done h place → DoneBy
  unfolding read_answer answer_of
  done_by e = go (read_by strict s at) refl
    where
      fitted : (t : Table) (rest : List ℕ) → read_by strict s at ≡ was_read t rest → (b : Bool) → fits (sizes t) q ≡ b → DoneBy
      fitted t rest p true f = record { table = t; rest = rest; reads = p; fit = f; answered = cc; ended = cc }
      fitted t rest p false f = impossible cc

      go : (o : Outcome) → read_by strict s at ≡ o → DoneBy
      go (was_read t rest) p = fitted t rest p (fits (sizes t) q) refl
      go (not_read why) p = impossible cc

  rooms_are : (d : DoneBy) → rooms_after strict s at q ≡ over_rooms (layout d.table) q
  rooms_are d = after_read strict s at q d.table d.rest d.reads d.fit

  -- the table is the one that is read without the switch
  pub done_reads : (d : DoneBy) → read_at s at ≡ was_read d.table d.rest
  done_reads d = as_read strict s at d.table d.rest d.reads

  pub done_holds : (t : Table) (rest : List ℕ) → DoneBy → read_at s at ≡ was_read t rest → table_of (rooms_after strict s at q) h ≡ t
  done_holds t rest d e =
      let same : was_read d.table d.rest ≡ was_read t rest = sym (done_reads d) ∙ e in
      let t-is : d.table ≡ t = cc in
      rw (rooms_are d, d.answered) (layout_back d.table q ∙ t-is)

  pub done_ends : (t : Table) (rest : List ℕ) → DoneBy → read_at s at ≡ was_read t rest → place ≡ length s - length rest
  done_ends t rest d e =
      let same : was_read d.table d.rest ≡ was_read t rest = sym (done_reads d) ∙ e in
      let rest-is : d.rest ≡ rest = cc in
      d.ended ∙ ap (λ l. length s - length l) rest-is

  pub done_fine : DoneBy → lengths_fine q ≡ true → rooms_fine (rooms_after strict s at q) h ≡ true
  done_fine d l = rw (rooms_are d, d.answered) (layout_fine d.table q (read_rows s at d.table d.rest (done_reads d)) d.fit l)

module _
    (strict : Bool) (W : ℕ) (truncate escape : Bool) (r : Rooms) (h : Head) (old : List ℕ) (k : ℕ)
    (e : keeping_answer W truncate escape r h (length old) ≡ answer.Done k) (n : length_fits (table_of r h) ≡ true) (m : k ≤ most)
    (c : letters_fit strict (table_of r h) ≡ true) (q : Rooms) (f : fits (sizes (table_of r h)) q ≡ true) (new : List ℕ)
    (is-new : new ≡ slice_after (keeping_answer W truncate escape r h (length old)) (written W truncate escape (table_of r h)) old) where
  text_is : take k new ≡ take k (slice_after (answer.Done k) (written W truncate escape (table_of r h)) old)
  text_is = ap (take k) is-new ∙ ap (λ a. take k (slice_after a (written W truncate escape (table_of r h)) old)) e

  pub read_done : read_answer strict (take k new) 0 q ≡ read.Done (head_of (table_of r h)) k
  read_done =
      rw text_is
      (answer_read W truncate escape r h strict old k q e n (le-leb k most m) c ∙
      ap (λ b. pick b (read.Done (head_of (table_of r h)) k) (read.Room (sizes (table_of r h)))) f)

  pub read_back : table_of (rooms_after strict (take k new) 0 q) (head_of (table_of r h)) ≡ table_of r h
  read_back =
      rw (after_read strict (take k new) 0 q (table_of r h) [] (rw text_is (answer_alike W truncate escape r h strict old k e n (le-leb k most m) c)) f)
      (layout_back (table_of r h) q)
