-- A table without its features and CONTIG, and what is known of one that gets as far as number 11.
use Rattle.std.specs.Prelude.{ℕ, ◌≤◌, ◌≡◌, Bool, true, false, not, List, [], leb, length}
use Rattle.std.proofs.Common.{sym, ◌∙◌, leb-true}
use Rattle.std.proofs.lemmas.Bool.{not-false}
use Rattle.spec_format.specs.Rooms.{Rooms, table_of, rooms_fine, rooms_in}
use Rattle.spec_format.specs.Table.{Table}
use Rattle.spec_format.specs.WellFormed.{width_fine}
use Rattle.spec_format.specs.declared.Head.{Head}
use Rattle.judge_header.specs.Rules.{HeaderKnown, header_known}
use Rattle.judge_rooms.specs.Facts.{HeadIn, RoomsIn}
use Rattle.judge_rooms.specs.Parts.{rest_head}
use Rattle.judge_rooms.specs.Steps.{and_left, and_right}
use Rattle.spec_format.specs.Record.{most}

abbrev pub rest_table : List ℕ → List ℕ → List ℕ → List ℕ → Head → Table
rest_table t rf cm l h = table_of (rooms_in t rf cm [] [] [] l) (rest_head h)

pub record RestKnown (t rf cm l : List ℕ) (h : Head) : Type 0 where
  pub head : HeadIn t h
  pub header : HeaderKnown t rf cm h
  pub letters : h.letters ≤ length l
  pub few : length l ≤ most

pub rest_known : (r : Rooms) (h : Head) → RoomsIn r h → RestKnown r.texts r.references r.comments r.letters h
rest_known r h k = record { head = k.head; header = header_known r h k; letters = k.counts.letters; few = k.lengths.letters }

-- numbers 12 and 10 are not due
pub record Passed (W : ℕ) (r : Rooms) (h : Head) : Type 0 where
  pub rooms : rooms_fine r h ≡ true
  pub narrowest : 60 ≤ W
  pub widest : W ≤ 132

pub passed_two : (W : ℕ) (r : Rooms) (h : Head) (a b : Bool) → a ≡ width_fine W → not a ≡ false → b ≡ rooms_fine r h → not b ≡ false → Passed W r h
passed_two W r h a b e t f u =
    let k : width_fine W ≡ true = sym e ∙ not-false a t in
    record {
      rooms = sym f ∙ not-false b u;
      narrowest = leb-true 60 W (and_left (leb 60 W) (leb W 132) k);
      widest = leb-true W 132 (and_right (leb 60 W) (leb W 132) k);
    }
