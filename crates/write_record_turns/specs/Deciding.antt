-- The rows being judged, the answer is decided: 11, 13 or 6, or that the record is to be put.
use Rattle.std.specs.Prelude.{ℕ, ◌-◌, ◌^◌, ◌≤◌, ◌<◌, ◌≡◌, Bool, ◌&&◌, Result, Ok, Err}
use Rattle.std.proofs.Math.Path.{refl, sym, ap}
use Rattle.std.proofs.Common.{subst, ◌∙◌}
use Rattle.std.proofs.Math.Bool.{true, false}
use mathlib.Core.List.{List, []}
use Rattle.std.proofs.Math.Nat.{sub-zero}
use native.Mathlib.Omega.{arith}
use Rattle.std.proofs.Math.ListN.{length}
use borrow.Author.Tests.{le-leb}
use Rattle.spec_format.specs.Answers.{room}
use Rattle.spec_format.specs.Rooms.{table_of, rows_from, features_fine}
use Rattle.spec_format.specs.Bytes.{all}
use Rattle.spec_format.specs.WellFormed.{feature_fine}
use Rattle.spec_format.specs.declared.Unwritten.{Unwritten}
use Rattle.spec_format.specs.declared.WriteAnswer.TheVariants as answer
use Rattle.base_pen.specs.Pen.{Writes, left_start, left_step, left_as}
use Rattle.base_rows.specs.declared.Feature.{Feature}
use Rattle.write_record_parts.specs.Parts.{before_parts, after_parts}
use Rattle.write_record_parts.specs.Split.{feature_at, fine_split, keeps_split, written_split}
use Rattle.judge_rooms.specs.Parts.{rest_head}
use Rattle.judge_rooms.specs.Steps.{features_end}
use Rattle.write_record_parts.specs.Bound.{written_small}
use Rattle.write_record_parts.specs.RestVerdict.{rest_verdict, verdict_by, table_fine, table_kept}
use Rattle.write_record_turns.specs.Answered.{Asking, rows_of, rest_table_of, text_of, answered, text_from, formed_alike, due, answers, asked_rooms, due_verdict}
use Rattle.write_record_turns.specs.declared.State.{State}
use Rattle.write_record_turns.specs.Measured.{too_long}
use Rattle.write_record_turns.specs.States.{ended_state, staged_state, row_kept, pass, Judged, Decides}
use Rattle.write_record_turns.specs.RowLaws.{text_last, pass_last, and_true}

module _ (a : Asking) (s : State) (out : List ℕ) (v : Result Unit Unwritten)
    (e : v ≡ rest_verdict a.how s.fine s.kept (rest_table_of a)) where
  module _ (rows : List Feature) (old : List ℕ) (last : a.head.features ≤ s.row) (k : Judged a rows old s out) where
    all_fine : features_fine (rows_of a rows) 0 0 a.head.features ≡ true
    all_fine = sym (features_end (rows_of a rows) s.row a.head.features s.from _ k.rooms last)

    formed : Bool
    formed = table_fine a.how (rest_table_of a)

    rest : Bool
    rest = table_kept a.how (rest_table_of a)

    -- with a keeping writer the rules hold of the table where they hold of the rows and of the rest
    all_kept : a.how.keeping ≡ true → table_kept a.how (table_of (rows_of a rows) a.head) ≡ (rest && s.kept)
    unfolding rest
    all_kept q =
        let z : a.head.features - 0 ≡ a.head.features = sub-zero a.head.features in
        let judged : pass a rows (row_kept a.how) 0 ≡ s.kept = k.kept ∙ (rw (pass_last a rows s.row (row_kept a.how) last) (and_true s.kept)) in
        keeps_split a.texts a.references a.comments a.qualifiers a.locations a.letters rows a.head a.how.width a.how.truncate a.how.escape ∙
        ap (λ (y : Bool). rest && y) (rw (z, q) at judged)

    is_due : due a rows (length old) ≡ answered v (room (length old) (length (text_of a rows)))
    unfolding rest_verdict formed rest
    is_due =
        let z : a.head.features - 0 ≡ a.head.features = sub-zero a.head.features in
        due_verdict a rows k.asked (length old) _ _ all_fine
        (fine_split a.texts a.references a.comments a.qualifiers a.locations a.letters rows a.head a.how.width a.how.truncate a.how.escape ∙
        ap (λ (y : Bool). formed && y)
        (ap (λ (y : Bool). y && all (feature_fine a.how.width) (rows_from (feature_at a.texts a.qualifiers rows) 8 0 a.head.features)) (formed_alike a rows) ∙
        (rw z at k.fine) ∙ (rw (pass_last a rows s.row (feature_fine a.how.width) last) (and_true s.fine))))
        refl ∙
        ap (λ (y : Result Unit Unwritten). answered y (room (length old) (length (text_of a rows)))) (by_writer a.how.keeping refl ∙ sym e)
      where
        by_writer : (keeping : Bool) → keeping ≡ a.how.keeping →
            verdict_by keeping (formed && s.fine) (table_kept a.how (table_of (rows_of a rows) a.head)) ≡ verdict_by keeping (formed && s.fine) (rest && s.kept)
        by_writer false q = refl
        by_writer true q = rw (all_kept (sym q))

    small : length (text_of a rows) < 2 ^ 64
    small = written_small a.how.width a.how.truncate a.how.escape (rows_of a rows) a.head (asked_rooms a rows k.asked all_fine)

    whole : {x : List ℕ} {m : ℕ} → Writes [] s.at (after_parts a.texts a.letters a.head a.how.width) x m → Writes [] 0 (text_of a rows) x m
    whole {x} {m} w = (left_as (text_last a rows s.row last) k.left).by x m w

  pub decide_refused : (why : Unwritten) → v ≡ Err why → Decides a s out (ended_state (answer.Refused why)) out
  decide_refused why f =
      record {
        by = λ rows old last g p k.
            record {
              held = answers a rows old out _ (sym (is_due rows old last k ∙ rw f)) k.same;
              nearer = rw (g, p) (omega arith);
            };
      }

  module _ {x : List ℕ} {m : ℕ} (f : v ≡ Ok tt) (w : Writes [] s.at (after_parts a.texts a.letters a.head a.how.width) x m) where
    pub decide_room : length out < m → Decides a s out (ended_state (answer.Room m)) out
    decide_room l =
        record {
          by = λ rows old last g p k.
              let y : answer.Room m ≡ room (length out) (length (text_of a rows)) = too_long out (whole rows old last k w) (small rows old last k) l in
              record {
                held = answers a rows old out _ ((y ∙ ap (λ (z : List ℕ). room (length z) (length (text_of a rows))) k.same) ∙ sym (is_due rows old last k ∙ rw f)) k.same;
                nearer = rw (g, p) (omega arith);
              };
        }

    pub decide_puts : {new : List ℕ} {j : ℕ} → m ≤ length out
        → Writes out 0 (before_parts a.texts a.references a.comments (rest_head a.head) a.head.features a.how) new j
        → Decides a s out (staged_state true 0 j 0 true true) new
    unfolding text_from
    decide_puts {new} {j} l b =
        record {
          by = λ rows old last g p k.
              let z : a.head.features - 0 ≡ a.head.features = sub-zero a.head.features in
              let d : m ≡ length (text_of a rows) = omega (arith, ((whole rows old last k w).fit (omega (arith, small rows old last k))).to) in
              let same : length out ≡ length old = ap length k.same in
              let fits : length (text_of a rows) ≤ length old = omega arith in
              record {
                held =
                    record {
                      asked = k.asked;
                      order = omega arith;
                      rooms = all_fine rows old last k;
                      is_due = sym (is_due rows old last k ∙ rw (f, le-leb (length (text_of a rows)) (length old) fits));
                      fits = fits;
                      left =
                          rw z
                          (left_step
                          (left_as
                          (written_split a.texts a.references a.comments a.qualifiers a.locations a.letters rows a.head a.how k.asked.passed.rooms)
                          left_start)
                          (subst (λ (y : List ℕ). Writes y 0 (before_parts a.texts a.references a.comments (rest_head a.head) a.head.features a.how) new j) k.same b));
                    };
                nearer = rw (g, p) (omega arith);
              };
        }
