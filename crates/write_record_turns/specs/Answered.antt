-- A call of the writer, its table, and the answer that is due.
use Rattle.std.specs.Prelude.{ℕ, ◌-◌, ◌≤◌, ◌≡◌, Bool, ◌&&◌, not, List, [], ◌++◌, leb, length, Result, Ok, Err}
use Rattle.std.proofs.Math.Path.{refl}
use Rattle.std.proofs.Common.{sym, ◌∙◌}
use Rattle.std.proofs.Math.Bool.{true, false}
use borrow.Author.Tests.{le-leb, not-true, not-false}
use Rattle.spec_format.specs.Answers.{room, no_rule, keeping_rules, write_answer, plain_answer, keeping_answer, slice_after}
use Rattle.spec_format.specs.Bytes.{pick, each}
use Rattle.spec_format.specs.Rooms.{Rooms, may_contig, rows_from, table_of, contig_text_fine, features_fine, rooms_fine, rooms_in}
use Rattle.spec_format.specs.WellFormed.{if_is, width_fine, contig_fine}
use Rattle.spec_format.specs.Write.{feature_lines, written}
use Rattle.spec_format.specs.declared.Head.{Head}
use Rattle.spec_format.specs.declared.Unwritten.{Unwritten}
use Rattle.spec_format.specs.declared.Unwritten.TheVariants as unwritten
use Rattle.spec_format.specs.declared.WriteAnswer.{WriteAnswer}
use Rattle.spec_format.specs.declared.WriteAnswer.TheVariants as answer
use Rattle.base_rows.specs.declared.Feature.{Feature}
use Rattle.judge_location.specs.Told.{contig_fine_alike, contig_formed_alike}
use Rattle.judge_rooms.specs.Parts.{rest_head}
use Rattle.write_record_parts.specs.Parts.{after_parts}
use Rattle.write_record_parts.specs.Split.{rows_rooms, feature_at, rooms_split}
use Rattle.spec_format.specs.declared.How.{How}
use Rattle.spec_format.specs.Table.{Table}
use Rattle.judge_record.specs.Rest.{rest_table, Passed}
use Rattle.write_record_parts.specs.RestVerdict.{verdict_by, table_fine, table_kept}
use Rattle.spec_format.specs.Impossible.{impossible}
use Rattle.spec_contracts.specs.Writes.{answer_by, LengthFits, WriteAnswered}
use Rattle.spec_format.specs.Record.{most}

-- ---- a call but for its rows

pub record Asking : Type 0 where
  pub texts : List ℕ
  pub references : List ℕ
  pub comments : List ℕ
  pub qualifiers : List ℕ
  pub locations : List ℕ
  pub letters : List ℕ
  pub head : Head
  pub how : How

abbrev pub asking : List ℕ → List ℕ → List ℕ → List ℕ → List ℕ → List ℕ → Head → How → Asking
asking t rf cm q lo l h how = record { texts = t; references = rf; comments = cm; qualifiers = q; locations = lo; letters = l; head = h; how = how }

abbrev pub rows_of : Asking → List Feature → Rooms
rows_of a rows = rows_rooms a.texts a.references a.comments a.qualifiers a.locations a.letters rows

abbrev pub rest_of : Asking → Rooms
rest_of a = rooms_in a.texts a.references a.comments [] a.qualifiers a.locations a.letters

-- number 10 and number 11 of CONTIG
abbrev pub contig_lies : Asking → Bool
contig_lies a = contig_text_fine (rest_of a) a.head.contig

abbrev pub contig_formed : Asking → Bool
contig_formed a = if_is contig_fine (may_contig (rest_of a) a.head.contig)

abbrev pub rest_table_of : Asking → Table
rest_table_of a = rest_table a.texts a.references a.comments a.letters a.head

-- the record that is to be written, and what of it comes from row i on
abbrev pub text_of : Asking → List Feature → List ℕ
text_of a rows = written a.how.width a.how.truncate a.how.escape (table_of (rows_of a rows) a.head)

unfoldable pub text_from : Asking → List Feature → ℕ → List ℕ
text_from a rows i =
    each (feature_lines a.how.width) (rows_from (feature_at a.texts a.qualifiers rows) 8 i (a.head.features - i)) ++
    after_parts a.texts a.letters a.head a.how.width

-- ---- the answer that is due, lent a slice of n bytes

-- what is answered by a verdict: its refusal, or what the rest of the work answers
abbrev pub answered : Result Unit Unwritten → WriteAnswer → WriteAnswer
answered (Ok done) x = x
answered (Err why) x = answer.Refused why

abbrev rule_of : Bool → ℕ → Bool → Bool → Rooms → Head → Bool
rule_of true W truncate escape r h = keeping_rules W truncate escape r h
rule_of false W truncate escape r h = no_rule W truncate escape r h

unfoldable pub due : Asking → List Feature → ℕ → WriteAnswer
due a rows n = write_answer (rule_of a.how.keeping) a.how.width a.how.truncate a.how.escape (rows_of a rows) a.head n

-- the work has ended with the answer x, and `new` is the slice that was `old`
pub record Ended (a : Asking) (rows : List Feature) (old new : List ℕ) (x : WriteAnswer) : Type 0 where
  pub is : x ≡ due a rows (length old)
  pub slice : new ≡ slice_after x (text_of a rows) old

due_by : (keeping : Bool) (W : ℕ) (truncate escape : Bool) (r : Rooms) (h : Head) (n : ℕ) → write_answer (rule_of keeping) W truncate escape r h n ≡ answer_by keeping W truncate escape r h n
unfolding plain_answer keeping_answer
due_by true W truncate escape r h n = refl
due_by false W truncate escape r h n = refl

module _ (a : Asking) (rows : List Feature) (old new : List ℕ) (x : WriteAnswer) where
  -- that is the writer's contract
  pub ended_well : LengthFits a.head.length → Ended a rows old new x → WriteAnswered a.how (rows_of a rows) a.head old new x
  unfolding due
  ended_well f e =
      record { is = e.is ∙ due_by a.how.keeping a.how.width a.how.truncate a.how.escape (rows_of a rows) a.head (length old); slice = e.slice; fits = f }

  pub answers : x ≡ due a rows (length old) → new ≡ slice_after x (text_of a rows) old → Ended a rows old new x
  answers e s = record { is = e; slice = s }

-- ---- 12 and 10

-- CONTIG does not look at the feature rows
lies_alike : (a : Asking) (rows : List Feature) → contig_text_fine (rows_of a rows) a.head.contig ≡ contig_lies a
lies_alike a rows = sym (contig_fine_alike (rows_of a rows) a.head.contig) ∙ contig_fine_alike (rest_of a) a.head.contig

pub formed_alike : (a : Asking) (rows : List Feature) → if_is contig_fine (may_contig (rows_of a rows) a.head.contig) ≡ contig_formed a
formed_alike a rows = sym (contig_formed_alike (rows_of a rows) a.head.contig) ∙ contig_formed_alike (rest_of a) a.head.contig

module _ (a : Asking) (rows : List Feature) (n : ℕ) where
  pub due_width : (b : Bool) → b ≡ width_fine a.how.width → not b ≡ true → answer.Refused unwritten.BadWidth ≡ due a rows n
  unfolding due
  due_width b e t = rw (← e, not-true b t)

  due_rooms : width_fine a.how.width ≡ true → rooms_fine (rows_of a rows) a.head ≡ false → answer.Refused unwritten.BadRooms ≡ due a rows n
  unfolding due
  due_rooms w e = rw (w, e)

  rooms_are : (x y z k f : Bool) → rooms_fine (rest_of a) (rest_head a.head) ≡ x → leb (length rows) most ≡ y → leb a.head.features (length rows) ≡ z
      → contig_lies a ≡ k → features_fine (rows_of a rows) 0 0 a.head.features ≡ f → rooms_fine (rows_of a rows) a.head ≡ (x && (y && (z && (k && f))))
  rooms_are x y z k f e g i c j =
      rooms_split a.texts a.references a.comments a.qualifiers a.locations a.letters rows a.head ∙ rw (e, g, i, lies_alike a rows, c, j)

  -- number 10 of the rest; of the number of rows; of CONTIG
  pub due_rest : (b c : Bool) → b ≡ width_fine a.how.width → not b ≡ false → c ≡ rooms_fine (rest_of a) (rest_head a.head) → not c ≡ true
      → answer.Refused unwritten.BadRooms ≡ due a rows n
  due_rest b c e t f u = due_rooms (sym e ∙ not-false b t) (rooms_are false _ _ _ _ (sym f ∙ not-true c u) refl refl refl refl)

  pub due_many : (b c d : Bool) → b ≡ width_fine a.how.width → not b ≡ false → c ≡ rooms_fine (rest_of a) (rest_head a.head) → not c ≡ false
      → d ≡ (leb (length rows) most && leb a.head.features (length rows)) → not d ≡ true
      → answer.Refused unwritten.BadRooms ≡ due a rows n
  due_many b c d e t f u g v =
      due_rooms (sym e ∙ not-false b t)
      (rooms_are true _ _ _ _ (sym f ∙ not-false c u) refl refl refl refl ∙ go (leb (length rows) most) (leb a.head.features (length rows)) _ (sym g ∙ not-true d v))
    where
      go : (y z w : Bool) → (y && z) ≡ false → (y && (z && w)) ≡ false
      go true true w h = absurd (true_false h)
        where
          true_false : true ≡ false → ⊥
          true_false k = impossible cc
      go true false w h = refl
      go false z w h = refl

  pub due_contig : width_fine a.how.width ≡ true → contig_lies a ≡ false → answer.Refused unwritten.BadRooms ≡ due a rows n
  due_contig w e = due_rooms w (rooms_are _ _ _ false _ refl refl refl e refl ∙ go (rooms_fine (rest_of a) (rest_head a.head)) (leb (length rows) most) (leb a.head.features (length rows)))
    where
      go : (x y z : Bool) → (x && (y && (z && false))) ≡ false
      go true true true = refl
      go true true false = refl
      go true false z = refl
      go false y z = refl

-- ---- the call got past 12 and past 10 of all but the rows

pub record Asked (a : Asking) (rows : List Feature) : Type 0 where
  pub passed : Passed a.how.width (rest_of a) (rest_head a.head)
  pub few : length rows ≤ most
  pub enough : a.head.features ≤ length rows
  pub lies : contig_lies a ≡ true

pub width_is : (W : ℕ) → 60 ≤ W → W ≤ 132 → width_fine W ≡ true
width_is W l u = rw (le-leb 60 W l, le-leb W 132 u)

module _ (a : Asking) (rows : List Feature) (k : Asked a rows) where
  rooms_by_rows : (f : Bool) → features_fine (rows_of a rows) 0 0 a.head.features ≡ f → rooms_fine (rows_of a rows) a.head ≡ f
  rooms_by_rows f e =
      rooms_are a rows 0 true true true true f k.passed.rooms (le-leb (length rows) most k.few) (le-leb a.head.features (length rows) k.enough) k.lies e

  pub asked_rooms : features_fine (rows_of a rows) 0 0 a.head.features ≡ true → rooms_fine (rows_of a rows) a.head ≡ true
  asked_rooms e = rooms_by_rows true e

  pub due_row : (n : ℕ) → features_fine (rows_of a rows) 0 0 a.head.features ≡ false → answer.Refused unwritten.BadRooms ≡ due a rows n
  due_row n e = due_rooms a rows n (width_is a.how.width k.passed.narrowest k.passed.widest) (rooms_by_rows false e)

  -- past 10 too: what is due then by the verdict on 11 and 13
  pub due_verdict : (n : ℕ) (f g : Bool) → features_fine (rows_of a rows) 0 0 a.head.features ≡ true
      → table_fine a.how (table_of (rows_of a rows) a.head) ≡ f → table_kept a.how (table_of (rows_of a rows) a.head) ≡ g
      → due a rows n ≡ answered (verdict_by a.how.keeping f g) (room n (length (text_of a rows)))
  unfolding due
  due_verdict n f g e p q =
      rw (width_is a.how.width k.passed.narrowest k.passed.widest, asked_rooms e, p) (go a.how.keeping f q)
    where
      go : (keeping f : Bool) → table_kept a.how (table_of (rows_of a rows) a.head) ≡ g →
          pick f (pick (rule_of keeping a.how.width a.how.truncate a.how.escape (rows_of a rows) a.head) (room n (length (text_of a rows)))
          (answer.Refused unwritten.NotKept)) (answer.Refused unwritten.NoLayout) ≡
          answered (verdict_by keeping f g) (room n (length (text_of a rows)))
      go keeping false q = refl
      go false true q = refl
      go true true q = rw q (by_kept g)
        where
          by_kept : (g : Bool) → pick g (room n (length (text_of a rows))) (answer.Refused unwritten.NotKept) ≡
              answered (pick g (Ok tt) (Err unwritten.NotKept)) (room n (length (text_of a rows)))
          by_kept true = refl
          by_kept false = refl
