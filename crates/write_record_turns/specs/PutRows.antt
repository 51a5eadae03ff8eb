-- Rows are put, and then the record is ended.
use Rattle.std.specs.Prelude.{Option, Some, None, slice_get, ℕ, ◌+◌, ◌*◌, ◌^◌, ◌≤◌, ◌<◌, ◌≡◌, true, List, length}
use Rattle.std.proofs.Common.{sym, ap, ◌∙◌, arith}
use Rattle.write_feature_row.specs.Flat.{feature_of_row}
use Rattle.spec_format.specs.Rooms.{feature_in}
use Rattle.spec_format.specs.Write.{feature_lines}
use Rattle.spec_format.specs.declared.Head.{Head}
use Rattle.spec_format.specs.declared.Unwritten.TheVariants as unwritten
use Rattle.spec_format.specs.declared.WriteAnswer.TheVariants as answer
use Rattle.base_pen.specs.Pen.{Writes, left_step, left_as}
use Rattle.base_rows.specs.Flat.{fetched_outside}
use Rattle.base_rows.specs.Rows.{numbers}
use Rattle.base_rows.specs.declared.Feature.{Feature}
use Rattle.write_record_parts.specs.Parts.{after_parts}
use Rattle.write_record_parts.specs.Split.{feature_at}
use Rattle.spec_format.specs.declared.How.{How}
use Rattle.judge_rooms.specs.Parts.{feature_rooms}
use Rattle.write_record_parts.specs.Bound.{written_small}
use Rattle.write_record_turns.specs.Answered.{Asking, asking, rows_of, text_of, answers, asked_rooms}
use Rattle.write_record_turns.specs.declared.State.{State}
use Rattle.write_record_turns.specs.Measured.{put_whole}
use Rattle.write_record_turns.specs.States.{ended_state, staged_state, Puts, Ends}
use Rattle.write_record_turns.specs.RowLaws.{text_more, text_last}

-- ---- a row is put

module _ (t q : List ℕ) (how : How) (s : State) (out : List ℕ) where
  pub put_outside : Puts t q how s None out (ended_state (answer.Refused unwritten.BadRooms)) out
  put_outside =
      record {
        by = λ rf cm lo l h rows old e less g p k.
            let m : length rows ≤ s.row = fetched_outside rows s.row (sym e) in
            absurd (omega (arith, k.asked.enough));
      }

  pub put_goes : (f : Feature) {new : List ℕ} {w : ℕ} → Writes out s.at (feature_lines how.width (feature_in (feature_rooms t (numbers f) q) 0)) new w
      → Puts t q how s (Some f) out (staged_state true (s.row + 1) w 0 true true) new
  put_goes f {new} {w} wr =
      record {
        by = λ rf cm lo l h rows old e less g p k.
            let a : Asking = asking t rf cm q lo l h how in
            let v : feature_in (feature_rooms t (numbers f) q) 0 ≡ feature_at t q rows (8 * s.row) = feature_of_row t q rows s.row f (sym e) in
            record {
              held =
                  record {
                    asked = k.asked;
                    order = omega arith;
                    rooms = k.rooms;
                    is_due = k.is_due;
                    fits = k.fits;
                    left = left_step (left_as (text_more a rows s.row less) k.left) (rw v at wr);
                  };
              nearer = rw (g, p) (omega arith);
            };
      }

-- ---- the record is ended

pub ends_done : (t l : List ℕ) (h : Head) (how : How) (s : State) (out : List ℕ) {new : List ℕ} {m : ℕ}
    → Writes out s.at (after_parts t l h how.width) new m → Ends t l h how s out (ended_state (answer.Done m)) new
ends_done t l h how s out {new} {m} w =
    record {
      by = λ rf cm q lo rows old last g p k.
          let a : Asking = asking t rf cm q lo l h how in
          let y : Writes old 0 (text_of a rows) new m = (left_as (text_last a rows s.row last) k.left).by new m w in
          let small : length (text_of a rows) < 2 ^ 64 =
          written_small how.width how.truncate how.escape (rows_of a rows) h (asked_rooms a rows k.asked k.rooms) in
          let d : m ≡ length (text_of a rows) = omega (arith, (y.fit (omega arith)).to) in
          record {
            held = answers a rows old new _ (ap answer.Done d ∙ k.is_due) (put_whole old y small k.fits);
            nearer = rw (g, p) (omega arith);
          };
    }
