-- Why the demands hold: what the answers of the definitions say, number by number.
use Rattle.std.specs.Prelude.{ℕ, ◌*◌, ◌/◌, ◌<◌, Bool, ◌&&◌, ◌≡◌, leb, length, replicate, Option, Some, None}
use Rattle.std.proofs.Common.{arith, sym, ap, ◌∙◌, le-leb}
use Rattle.std.proofs.Math.Bool.{true, false}
use mathlib.Core.List.{List}
use Rattle.std.proofs.Math.Path.{refl}
use Rattle.std.proofs.lemmas.List.{length-replicate}
use Rattle.spec_format.specs.Answers.{room, no_rule, keeping_rules, write_answer, plain_answer, keeping_answer, slice_after}
use Rattle.spec_format.specs.Bytes.{pick}
use Rattle.spec_format.specs.Impossible.{impossible}
use Rattle.spec_format.specs.Numbers.{unread_number, read_number, unwritten_number, write_number, write_value}
use Rattle.spec_format.specs.Record.{Outcome, was_read, not_read}
use Rattle.spec_format.specs.Rooms.{Rooms, table_of, rooms_fine, layout, sizes, fits, over_rooms, answer_of, read_answer, rooms_of, rooms_after}
use Rattle.spec_format.specs.Strict.{read_by}
use Rattle.spec_format.specs.Table.{Table}
use Rattle.spec_format.specs.WellFormed.{width_fine, well_formed}
use Rattle.spec_format.specs.Write.{written}
use Rattle.spec_format.specs.declared.Head.{Head}
use Rattle.spec_format.specs.declared.How.{How}
use Rattle.spec_format.specs.declared.ReadAnswer.{ReadAnswer}
use Rattle.spec_format.specs.declared.ReadAnswer.TheVariants as read
use Rattle.spec_format.specs.declared.Sizes.{Sizes}
use Rattle.spec_format.specs.declared.Unread.{Unread}
use Rattle.spec_format.specs.declared.Unread.TheVariants as unread
use Rattle.spec_format.specs.declared.Unwritten.{Unwritten}
use Rattle.spec_format.specs.declared.Unwritten.TheVariants as unwritten
use Rattle.spec_format.specs.declared.WriteAnswer.{WriteAnswer}
use Rattle.spec_format.specs.declared.WriteAnswer.TheVariants as answer
use Rattle.spec_lines.specs.Troubles.{read_spot}
use Rattle.spec_lines.specs.declared.Spot.{Spot}
use Rattle.base_rows.specs.declared.Feature.{Feature}
use Rattle.base_rows.specs.Flat.{flat_tells}
use Rattle.api_head.specs.Back.{outside_refused}
use Rattle.spec_contracts.specs.Numbers.{outside}
use Rattle.spec_contracts.specs.Reads.{RowRooms, flat_rooms}
use Rattle.spec_contracts.specs.declared.Reported.{Reported}
use Rattle.spec_contracts.specs.Writes.{answer_by, answer_due, text_due, LengthFits}

-- ---- the reader: a refusal is neither 0 nor 6

pub unread_not_zero : (why : Unread) → unread_number why ≡ 0 → ⊥
unread_not_zero unread.AtEnd e = impossible cc
unread_not_zero unread.Unended e = impossible cc
unread_not_zero unread.BadPlace e = impossible cc
unread_not_zero unread.NoLocus e = impossible cc
unread_not_zero unread.TwoDefinitions e = impossible cc
unread_not_zero unread.NoSlashes e = impossible cc
unread_not_zero unread.OtherLength e = impossible cc
unread_not_zero unread.BadLetter e = impossible cc
unread_not_zero unread.TooDeep e = impossible cc
unread_not_zero unread.StrayLetter e = impossible cc

pub unread_not_six : (why : Unread) → unread_number why ≡ 6 → ⊥
unread_not_six unread.AtEnd e = impossible cc
unread_not_six unread.Unended e = impossible cc
unread_not_six unread.BadPlace e = impossible cc
unread_not_six unread.NoLocus e = impossible cc
unread_not_six unread.TwoDefinitions e = impossible cc
unread_not_six unread.NoSlashes e = impossible cc
unread_not_six unread.OtherLength e = impossible cc
unread_not_six unread.BadLetter e = impossible cc
unread_not_six unread.TooDeep e = impossible cc
unread_not_six unread.StrayLetter e = impossible cc

-- ---- what the definitions answer, strictly or not, lent rooms q, and leave

module _ (strict : Bool) (s : List ℕ) (at : ℕ) (q : Rooms) where
  pub answer_read : (t : Table) (rest : List ℕ) → read_by strict s at ≡ was_read t rest → read_answer strict s at q ≡ answer_of (length s) q (was_read t rest)
  unfolding read_answer
  answer_read t rest e = rw e

  pub answer_short : (t : Table) (rest : List ℕ) → read_by strict s at ≡ was_read t rest → fits (sizes t) q ≡ false → read_answer strict s at q ≡ read.Room (sizes t)
  unfolding read_answer answer_of
  answer_short t rest e f = rw (e, f)

  pub answer_number : (t : Table) (rest : List ℕ) (b : Bool) → read_by strict s at ≡ was_read t rest → fits (sizes t) q ≡ b → read_number (read_answer strict s at q) ≡ pick b 0 6
  unfolding read_answer answer_of
  answer_number t rest true e f = rw (e, f)
  answer_number t rest false e f = rw (e, f)

  pub answer_not : (why : Unread) → read_by strict s at ≡ not_read why → read_number (read_answer strict s at q) ≡ unread_number why
  unfolding read_answer answer_of
  answer_not why e = rw e

  pub refused_by : (why : Unread) → read_answer strict s at q ≡ read.Refused why → read_by strict s at ≡ not_read why
  unfolding read_answer answer_of
  refused_by why r = go (read_by strict s at) refl
    where
      fitted : (t : Table) (rest : List ℕ) → read_by strict s at ≡ was_read t rest → (b : Bool) → fits (sizes t) q ≡ b → read_by strict s at ≡ not_read why
      fitted t rest e true f = impossible cc
      fitted t rest e false f = impossible cc

      go : (o : Outcome) → read_by strict s at ≡ o → read_by strict s at ≡ not_read why
      go (was_read t rest) e = fitted t rest e (fits (sizes t) q) refl
      go (not_read w) e = cc

  pub after_same : (read_number (read_answer strict s at q) ≡ 0 → ⊥) → rooms_after strict s at q ≡ q
  unfolding read_answer answer_of rooms_after rooms_of
  after_same n = go (read_by strict s at) refl
    where
      fitted : (t : Table) (rest : List ℕ) → read_by strict s at ≡ was_read t rest → (b : Bool) → fits (sizes t) q ≡ b → rooms_after strict s at q ≡ q
      fitted t rest e true f = absurd (n (answer_number t rest true e f))
      fitted t rest e false f = rw (e, f)

      go : (o : Outcome) → read_by strict s at ≡ o → rooms_after strict s at q ≡ q
      go (was_read t rest) e = fitted t rest e (fits (sizes t) q) refl
      go (not_read why) e = rw e

  -- where the number is 0 the rooms have the table's layout over what they held
  pub after_laid : (t : Table) (rest : List ℕ) → read_by strict s at ≡ was_read t rest → read_number (read_answer strict s at q) ≡ 0 → rooms_after strict s at q ≡ over_rooms (layout t) q
  unfolding rooms_after rooms_of
  after_laid t rest e n = go (fits (sizes t) q) refl
    where
      go : (b : Bool) → fits (sizes t) q ≡ b → rooms_after strict s at q ≡ over_rooms (layout t) q
      go true f = rw (e, f)
      go false f = let x = answer_number t rest false e f in impossible cc

-- an answer and the line that it tells are one result
pub reported_equal : (r r' : Reported) → r.answer ≡ r'.answer → r.spot ≡ r'.spot → r ≡ r'
reported_equal r r' e f = ap (λ (x : ReadAnswer). with_spot x r.spot) e ∙ ap (λ (x : Spot). with_spot r'.answer x) f
  where
    with_spot : ReadAnswer → Spot → Reported
    with_spot a p = record { answer = a; spot = p }

pub told_equal : (s : List ℕ) (at : ℕ) (r r' : Reported) → r.answer ≡ r'.answer → r.spot ≡ read_spot s at r.answer → r'.spot ≡ read_spot s at r'.answer → r ≡ r'
told_equal s at r r' e t t' = reported_equal r r' e (t ∙ (ap (λ (x : ReadAnswer). read_spot s at x) e ∙ sym t'))

-- flat numbers tell the rows
pub rows_tell : (a b : RowRooms) → flat_rooms a ≡ flat_rooms b → a ≡ b
rows_tell a b e =
    ap (λ (x : Rooms). rows_for x a.rows) e ∙ ap (λ (x : List Feature). rows_for (flat_rooms b) x) (flat_tells a.rows b.rows (ap (λ (x : Rooms). x.features) e))
  where
    rows_for : Rooms → List Feature → RowRooms
    rows_for x rows =
        record {
          texts = x.texts;
          references = x.references;
          comments = x.comments;
          rows = rows;
          qualifiers = x.qualifiers;
          locations = x.locations;
          letters = x.letters;
        }

-- ---- rooms of given sizes

abbrev pub rooms_for : Sizes → Rooms
rooms_for n =
    record {
      texts = replicate n.texts 0;
      references = replicate (14 * n.references) 0;
      comments = replicate (2 * n.comments) 0;
      features = replicate (8 * n.features) 0;
      qualifiers = replicate (4 * n.qualifiers) 0;
      locations = replicate (7 * n.locations) 0;
      letters = replicate n.letters 0;
    }

seven : (a b c d e f g : Bool) → a ≡ true → b ≡ true → c ≡ true → d ≡ true → e ≡ true → f ≡ true → g ≡ true → (a && (b && (c && (d && (e && (f && g)))))) ≡ true
seven a b c d e f g p q r s t u v = cc

long : (k : ℕ) → length (replicate {A = ℕ} k 0) ≡ k
long k = length-replicate {A = ℕ} k 0

pub rooms_for_fit : (n : Sizes) → fits n (rooms_for n) ≡ true
unfolding fits
rooms_for_fit n =
    rw (
      long n.texts,
      long (14 * n.references),
      long (2 * n.comments),
      long (8 * n.features),
      long (4 * n.qualifiers),
      long (7 * n.locations),
      long n.letters,
    )
    (seven _ _ _ _ _ _ _ (le-leb n.texts n.texts (omega arith)) (le-leb n.references (14 * n.references / 14) (omega arith))
    (le-leb n.comments (2 * n.comments / 2) (omega arith)) (le-leb n.features (8 * n.features / 8) (omega arith))
    (le-leb n.qualifiers (4 * n.qualifiers / 4) (omega arith)) (le-leb n.locations (7 * n.locations / 7) (omega arith))
    (le-leb n.letters n.letters (omega arith)))

-- ---- the writers

pub unwritten_not_zero : (why : Unwritten) → unwritten_number why ≡ 0 → ⊥
unwritten_not_zero unwritten.BadRooms e = impossible cc
unwritten_not_zero unwritten.NoLayout e = impossible cc
unwritten_not_zero unwritten.BadWidth e = impossible cc
unwritten_not_zero unwritten.NotKept e = impossible cc

pub unwritten_not_six : (why : Unwritten) → unwritten_number why ≡ 6 → ⊥
unwritten_not_six unwritten.BadRooms e = impossible cc
unwritten_not_six unwritten.NoLayout e = impossible cc
unwritten_not_six unwritten.BadWidth e = impossible cc
unwritten_not_six unwritten.NotKept e = impossible cc

-- 6 with a count is that answer
pub room_of : (a : WriteAnswer) (k : ℕ) → write_number a ≡ 6 → write_value a ≡ k → a ≡ answer.Room k
room_of (answer.Done n) k e v = impossible cc
room_of (answer.Room n) k e v = ap answer.Room v
room_of (answer.Refused why) k e v = absurd (unwritten_not_six why e)

pub slice_same : (a : WriteAnswer) (text old : List ℕ) → (write_number a ≡ 0 → ⊥) → slice_after a text old ≡ old
slice_same (answer.Done k) text old h = absurd (h refl)
slice_same (answer.Refused why) text old h = refl
slice_same (answer.Room k) text old h = refl

-- what is due without regard to the room: why not, or that it is the room that decides
pub data Due (f : ℕ → WriteAnswer) (k : ℕ) : Type 0 where
  never : (why : Unwritten) → ((n : ℕ) → f n ≡ answer.Refused why) → Due f k
  by_room : ((n : ℕ) → f n ≡ room n k) → Due f k

module _ (kept : ℕ → Bool → Bool → Rooms → Head → Bool) (W : ℕ) (truncate escape : Bool) (r : Rooms) (h : Head) where
  due_of : Due (write_answer kept W truncate escape r h) (length (written W truncate escape (table_of r h)))
  due_of = go (width_fine W) refl (rooms_fine r h) refl (well_formed W truncate escape (table_of r h)) refl (kept W truncate escape r h) refl
    where
      go :
          (a : Bool) → width_fine W ≡ a → (b : Bool) → rooms_fine r h ≡ b → (c : Bool) → well_formed W truncate escape (table_of r h) ≡ c → (d : Bool) →
          kept W truncate escape r h ≡ d → Due (write_answer kept W truncate escape r h) (length (written W truncate escape (table_of r h)))
      go false p b q c s d u = never unwritten.BadWidth (λ n. rw p)
      go true p false q c s d u = never unwritten.BadRooms (λ n. rw (p, q))
      go true p true q false s d u = never unwritten.NoLayout (λ n. rw (p, q, s))
      go true p true q true s false u = never unwritten.NotKept (λ n. rw (p, q, s, u))
      go true p true q true s true u = by_room (λ n. rw (p, q, s, u))

due_by : (keeping : Bool) (W : ℕ) (truncate escape : Bool) (r : Rooms) (h : Head) → Due (answer_by keeping W truncate escape r h) (length (written W truncate escape (table_of r h)))
unfolding plain_answer keeping_answer
due_by true W truncate escape r h = due_of keeping_rules W truncate escape r h
due_by false W truncate escape r h = due_of no_rule W truncate escape r h

pub what_is_due : (how : How) (r : Rooms) (h : Head) → Due (answer_due how r h) (length (text_due how (table_of r h)))
what_is_due how r h = due_by how.keeping how.width how.truncate how.escape r h

pub room_number : (n k : ℕ) (b : Bool) → leb k n ≡ b → write_number (room n k) ≡ pick b 0 6
room_number n k true e = rw e
room_number n k false e = rw e

pub done_count : (how : How) (r : Rooms) (h : Head) (n k : ℕ) → answer_due how r h n ≡ answer.Done k → k ≡ length (text_due how (table_of r h))
done_count how r h n k e = by (what_is_due how r h)
  where
    by : Due (answer_due how r h) (length (text_due how (table_of r h))) → k ≡ length (text_due how (table_of r h))
    by (never why f) = let x = f n in impossible cc
    by (by_room f) = go (leb (length (text_due how (table_of r h))) n) refl
      where
        go : (b : Bool) → leb (length (text_due how (table_of r h))) n ≡ b → k ≡ length (text_due how (table_of r h))
        go true g = let x = f n in cc
        go false g = let x = f n in impossible cc

pub length_below : (l : Option ℕ) → LengthFits l → (n : ℕ) → l ≡ Some n → n < 4294967296
length_below None f n e = impossible cc
length_below (Some m) f n e = let x : m ≡ n = cc in omega (arith, f)

-- no writer takes a width of 0
pub no_width : (keeping truncate escape : Bool) (r : Rooms) (h : Head) (n : ℕ) → write_number (answer_by keeping 0 truncate escape r h n) ≡ 12
unfolding plain_answer keeping_answer
no_width true truncate escape r h n = refl
no_width false truncate escape r h n = refl

-- numbers that stand for no head are refused by 10, at every width that there is
pub no_head_lem : (keeping : Bool) (W : ℕ) (truncate escape : Bool) (r : Rooms) (n : ℕ) → width_fine W ≡ true → write_number (answer_by keeping W truncate escape r outside n) ≡ 10
unfolding plain_answer keeping_answer
no_head_lem true W truncate escape r n e = rw (e, outside_refused r)
no_head_lem false W truncate escape r n e = rw (e, outside_refused r)

-- a writer that is done passed 12, 10 and 11
pub record Passed (W : ℕ) (truncate escape : Bool) (r : Rooms) (h : Head) : Type 0 where
  pub rooms : rooms_fine r h ≡ true
  pub formed : well_formed W truncate escape (table_of r h) ≡ true

pub keeping_passed : (W : ℕ) (truncate escape : Bool) (r : Rooms) (h : Head) (n k : ℕ) → keeping_answer W truncate escape r h n ≡ answer.Done k → Passed W truncate escape r h
unfolding keeping_answer
keeping_passed W truncate escape r h n k e = go (width_fine W) refl (rooms_fine r h) refl (well_formed W truncate escape (table_of r h)) refl
  where
    go : (a : Bool) → width_fine W ≡ a → (b : Bool) → rooms_fine r h ≡ b → (c : Bool) → well_formed W truncate escape (table_of r h) ≡ c → Passed W truncate escape r h
    go true p true q true s = record { rooms = q; formed = s }
    go true p true q false s = impossible cc
    go true p false q c s = impossible cc
    go false p b q c s = impossible cc
