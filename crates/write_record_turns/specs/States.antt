-- What a state of the writer says, and what each turn does with it: the contracts of the turns.
use Rattle.std.specs.Prelude.{Option, Some, None, slice_get, ℕ, ◌+◌, ◌-◌, ◌/◌, ◌≤◌, ◌<◌, ◌≡◌, Bool, true, false, ◌&&◌, ◌||◌, not, List, [], length}
use Rattle.judge_feature.specs.Rules.{feature_of, FeatureKnown}
use Rattle.spec_format.specs.Bytes.{all}
use Rattle.spec_format.specs.Rooms.{span_text, rows_from, features_fine, rooms_in}
use Rattle.spec_format.specs.Table.{Feature as Described}
use Rattle.spec_format.specs.WellFormed.{feature_fine}
use Rattle.spec_format.specs.declared.Head.{Head}
use Rattle.spec_format.specs.declared.WriteAnswer.{WriteAnswer}
use Rattle.spec_format.specs.declared.WriteAnswer.TheVariants as answer
use Rattle.judge_header.specs.declared.Rule.TheVariants as rule
use Rattle.base_pen.specs.Pen.{Left}
use Rattle.base_rows.specs.Rows.{numbers}
use Rattle.base_rows.specs.declared.Feature.{Feature}
use Rattle.write_record_parts.specs.Split.{feature_at}
use Rattle.spec_format.specs.declared.How.{How}
use Rattle.judge_location.specs.Told.{location_told, contig_told}
use Rattle.judge_rooms.specs.Facts.{ContigIn}
use Rattle.judge_rooms.specs.Parts.{feature_rooms, feature_next, rest_head}
use Rattle.judge_record.specs.Rest.{Passed}
use Rattle.write_record_turns.specs.Answered.{Asking, asking, rows_of, rest_of, contig_formed, text_of, text_from, due, Ended, Asked}
use Rattle.write_record_turns.specs.declared.State.{State}
use Rattle.spec_format.specs.Record.{most}

-- ---- states

abbrev pub ended_state : WriteAnswer → State
ended_state a = record { going = false; putting = false; row = 0; at = 0; from = 0; fine = true; kept = true; answer = a }

abbrev pub staged_state : Bool → ℕ → ℕ → ℕ → Bool → Bool → State
staged_state putting row at from fine kept =
    record { going = true; putting = putting; row = row; at = at; from = from; fine = fine; kept = kept; answer = answer.Done 0 }

-- the keeping rules of a feature, of which the plain writer asks nothing
abbrev pub row_kept : How → Described → Bool
row_kept how f = not how.keeping || feature_of (rule.Kept how.width) f

-- the features from row i on pass a test, which asks nothing of location rows
abbrev pub pass : Asking → List Feature → (Described → Bool) → ℕ → Bool
pass a rows p i = all p (rows_from (feature_at a.texts a.qualifiers rows) 8 i (a.head.features - i))

-- CONTIG and the rows up to the next one are judged, and measured on no room
pub record Judged (a : Asking) (rows : List Feature) (old : List ℕ) (s : State) (out : List ℕ) : Type 0 where
  pub asked : Asked a rows
  pub same : out ≡ old
  pub order : s.row ≤ a.head.features
  pub rooms : features_fine (rows_of a rows) 0 0 a.head.features ≡ features_fine (rows_of a rows) s.row s.from (a.head.features - s.row)
  pub fine : (contig_formed a && pass a rows (feature_fine a.how.width) 0) ≡ (s.fine && pass a rows (feature_fine a.how.width) s.row)
  pub kept : pass a rows (row_kept a.how) 0 ≡ (s.kept && pass a rows (row_kept a.how) s.row)
  pub left : Left [] 0 (text_of a rows) [] s.at (text_from a rows s.row)

-- the record is due, and put up to the next row
pub record Putting (a : Asking) (rows : List Feature) (old : List ℕ) (s : State) (out : List ℕ) : Type 0 where
  pub asked : Asked a rows
  pub order : s.row ≤ a.head.features
  pub rooms : features_fine (rows_of a rows) 0 0 a.head.features ≡ true
  pub is_due : answer.Done (length (text_of a rows)) ≡ due a rows (length old)
  pub fits : length (text_of a rows) ≤ length old
  pub left : Left old 0 (text_of a rows) out s.at (text_from a rows s.row)

abbrev pub HeldBy : Bool → Bool → Asking → List Feature → List ℕ → State → List ℕ → Type 0
HeldBy false p a rows old s out = Ended a rows old out s.answer
HeldBy true false a rows old s out = Judged a rows old s out
HeldBy true true a rows old s out = Putting a rows old s out

-- what a state says of the slice `old` that was lent and is now `out`
abbrev pub Held : Asking → List Feature → List ℕ → State → List ℕ → Type 0
Held a rows old s out = HeldBy s.going s.putting a rows old s out

abbrev pub left_by : Bool → Bool → ℕ → ℕ → ℕ
left_by false p n row = 0
left_by true false n row = (n - row) + n + 2
left_by true true n row = (n - row) + 1

-- how many turns there are left, of n rows
abbrev pub turns_left : ℕ → State → ℕ
turns_left n s = left_by s.going s.putting n s.row

pub record Went (a : Asking) (rows : List Feature) (old : List ℕ) (s r : State) (out : List ℕ) : Type 0 where
  pub held : Held a rows old r out
  pub nearer : turns_left a.head.features r < turns_left a.head.features s

-- ---- the contracts

-- where locations are judged: a text in the store and a row have numbers that the reader of locations takes
pub record Small (t lo : List ℕ) : Type 0 where
  pub texts : length t ≤ most
  pub locations : length lo / 7 ≤ most

pub record Starts (n : ℕ) (a : Asking) (r : State) : Type 0 where
  pub by : (rows : List Feature) (old : List ℕ) → n ≡ length rows → Held a rows old r old

-- a start that got past 12 and past 10 of all but CONTIG and the rows, where `told` is what CONTIG's location told
pub record Begins (told : Option Bool) (t rf cm : List ℕ) (h : Head) (how : How) (r : State) : Type 0 where
  pub by : (q lo l : List ℕ) (n : ℕ) → told ≡ contig_told t lo h.contig → Passed how.width (rooms_in t rf cm [] q lo l) (rest_head h) → n ≤ most →
      h.features ≤ n → Starts n (asking t rf cm q lo l h how) r

pub record Judges (t q lo : List ℕ) (how : How) (s : State) (f : Option Feature) (r : State) : Type 0 where
  pub by : (rf cm l : List ℕ) (h : Head) (rows : List Feature) (old out : List ℕ) → f ≡ slice_get rows s.row → s.row < h.features →
      s.going ≡ true → s.putting ≡ false → Judged (asking t rf cm q lo l h how) rows old s out → Went (asking t rf cm q lo l h how) rows old s r out

-- a row that lies in its rooms, where `told` is what its location told and its qualifiers end at m
pub record JudgesTold (t q : List ℕ) (how : How) (s : State) (f : Feature) (m : ℕ) (told : Option Bool) (r : State) : Type 0 where
  pub by : (lo : List ℕ) (o : Option ℕ) → o ≡ feature_next (feature_rooms t (numbers f) q) 0 s.from → o ≡ Some m →
      told ≡ location_told false lo (span_text t f.location) f.row f.rows → Judges t q lo how s (Some f) r

pub record Decides (a : Asking) (s : State) (out : List ℕ) (r : State) (new : List ℕ) : Type 0 where
  pub by : (rows : List Feature) (old : List ℕ) → a.head.features ≤ s.row → s.going ≡ true → s.putting ≡ false → Judged a rows old s out → Went a rows old s r new

pub record Puts (t q : List ℕ) (how : How) (s : State) (f : Option Feature) (out : List ℕ) (r : State) (new : List ℕ) : Type 0 where
  pub by : (rf cm lo l : List ℕ) (h : Head) (rows : List Feature) (old : List ℕ) → f ≡ slice_get rows s.row → s.row < h.features →
      s.going ≡ true → s.putting ≡ true → Putting (asking t rf cm q lo l h how) rows old s out → Went (asking t rf cm q lo l h how) rows old s r new

pub record Ends (t l : List ℕ) (h : Head) (how : How) (s : State) (out : List ℕ) (r : State) (new : List ℕ) : Type 0 where
  pub by : (rf cm q lo : List ℕ) (rows : List Feature) (old : List ℕ) → h.features ≤ s.row → s.going ≡ true → s.putting ≡ true →
      Putting (asking t rf cm q lo l h how) rows old s out → Went (asking t rf cm q lo l h how) rows old s r new

-- what a turn asks: that the rest of the table passed, that CONTIG lies in the store, and of a row that is put that it lies in its rooms
pub record Steady (a : Asking) (s : State) (f : Option Feature) : Type 0 where
  pub passed : Passed a.how.width (rest_of a) (rest_head a.head)
  pub contig : ContigIn a.texts a.head.contig
  pub few : s.row ≤ most
  pub row : s.putting ≡ true → s.row < a.head.features → (x : Feature) → f ≡ Some x → FeatureKnown a.texts (numbers x) a.qualifiers 0

pub record Steps (a : Asking) (s : State) (f : Option Feature) (out : List ℕ) (r : State) (new : List ℕ) : Type 0 where
  pub by : (rows : List Feature) (old : List ℕ) → f ≡ slice_get rows s.row → s.going ≡ true → Held a rows old s out → Went a rows old s r new
