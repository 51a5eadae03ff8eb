-- The work starts, and rows are judged and measured.
use Rattle.std.specs.Prelude.{Option, Some, None, slice_get, ℕ, ◌+◌, ◌-◌, ◌*◌, ◌≤◌, ◌≡◌, refl, Bool, ◌&&◌, not, List, [], leb, length}
use Rattle.std.proofs.Math.Path.{sym, ap}
use Rattle.std.proofs.Common.{◌∙◌, arith}
use Rattle.std.proofs.Math.Bool.{true, false}
use Rattle.std.proofs.Math.Nat.{sub-zero}
use borrow.Author.Tests.{not-false, leb-true}
use Rattle.judge_feature.specs.Rules.{feature_of, fine_is, FeatureKnown}
use Rattle.write_feature_row.specs.Flat.{next_of_row, feature_of_row}
use Rattle.spec_format.specs.Location.{locates}
use Rattle.spec_format.specs.Rooms.{span_text, feature_in, features_fine, rooms_fine, rooms_in}
use Rattle.spec_format.specs.WellFormed.{width_fine, feature_fine}
use Rattle.spec_format.specs.Table.{Feature as Described}
use Rattle.spec_format.specs.Write.{feature_lines}
use Rattle.spec_format.specs.declared.Head.{Head}
use Rattle.spec_format.specs.declared.Unwritten.TheVariants as unwritten
use Rattle.spec_format.specs.declared.WriteAnswer.TheVariants as answer
use Rattle.judge_header.specs.declared.Rule.TheVariants as rule
use Rattle.base_pen.specs.Pen.{Writes, left_start, left_step, left_as}
use Rattle.base_rows.specs.Flat.{fetched_outside}
use Rattle.base_rows.specs.Rows.{numbers}
use Rattle.base_rows.specs.declared.Feature.{Feature}
use Rattle.write_record_parts.specs.Parts.{before_parts}
use Rattle.write_record_parts.specs.Split.{feature_at, written_split}
use Rattle.spec_format.specs.declared.How.{How}
use Rattle.judge_location.specs.Told.{told_by, location_told, contig_told, contig_fine_alike, contig_formed_alike, told_none, told_some}
use Rattle.judge_rooms.specs.Facts.{RoomsIn, feature_in_lem}
use Rattle.judge_rooms.proofs.Facts.{rooms_in_lem}
use Rattle.judge_rooms.specs.Parts.{feature_rooms, feature_next, rest_head}
use Rattle.judge_rooms.specs.Steps.{and_left, and_right, feature_located, next_alike}
use Rattle.judge_rooms.proofs.Steps.{features_go, features_no, features_unlocated}
use Rattle.judge_record.specs.Rest.{passed_two}
use Rattle.write_record_turns.specs.Answered.{Asking, asking, rows_of, rest_of, text_from, answers, contig_lies, contig_formed, due_width, due_rest, due_many, due_contig, due_row, width_is}
use Rattle.write_record_turns.specs.declared.State.{State}
use Rattle.write_record_turns.specs.States.{ended_state, staged_state, row_kept, pass, Begins, Starts, JudgesTold, Judges}
use Rattle.write_record_turns.specs.RowLaws.{nowhere, text_more, pass_more, located_of_row, and_assoc}
use Rattle.spec_format.specs.Record.{most}

-- ---- start

-- what is known of the rest where its test held
pub rest_lies : (t rf cm q lo l : List ℕ) (h : Head) (c : Bool) → c ≡ rooms_fine (rooms_in t rf cm [] q lo l) (rest_head h) → not c ≡ false
    → RoomsIn (rooms_in t rf cm [] q lo l) (rest_head h)
rest_lies t rf cm q lo l h c e u = rooms_in_lem (rooms_in t rf cm [] q lo l) (rest_head h) (sym e ∙ not-false c u)

module _ (a : Asking) (b : Bool) (e : b ≡ width_fine a.how.width) where
  pub start_width : (n : ℕ) → not b ≡ true → Starts n a (ended_state (answer.Refused unwritten.BadWidth))
  start_width n t = record { by = λ rows old m. answers a rows old old _ (due_width a rows (length old) b e t) refl }

  module _ (t : not b ≡ false) (c : Bool) (f : c ≡ rooms_fine (rest_of a) (rest_head a.head)) where
    pub start_rooms : (n : ℕ) → not c ≡ true → Starts n a (ended_state (answer.Refused unwritten.BadRooms))
    start_rooms n u = record { by = λ rows old m. answers a rows old old _ (due_rest a rows (length old) b c e t f u) refl }

    module _ (u : not c ≡ false) (n : ℕ) (d : Bool) (g : d ≡ (leb n most && leb a.head.features n)) where
      pub start_rows : not d ≡ true → Starts n a (ended_state (answer.Refused unwritten.BadRooms))
      start_rows v = record { by = λ rows old m. answers a rows old old _ (due_many a rows (length old) b c d e t f u (rw m at g) v) refl }

      pub start_begins : (told : Option Bool) (r : State) → not d ≡ false → told ≡ contig_told a.texts a.locations a.head.contig
          → Begins told a.texts a.references a.comments a.head a.how r → Starts n a r
      start_begins told r v i y =
          let x : (leb n most && leb a.head.features n) ≡ true = sym g ∙ not-false d v in
          y.by a.qualifiers a.locations a.letters n i (passed_two a.how.width (rest_of a) (rest_head a.head) b c e t f u)
          (leb-true _ _ (and_left _ _ x)) (leb-true _ _ (and_right (leb n most) _ x))

module _ (told : Option Bool) (t rf cm : List ℕ) (h : Head) (how : How) where
  told_is : (a : Asking) → told ≡ contig_told a.texts a.locations a.head.contig → told_by (contig_lies a) (contig_formed a) ≡ told
  told_is a i = rw (← (contig_fine_alike (rest_of a) a.head.contig), ← (contig_formed_alike (rest_of a) a.head.contig)) (sym i)

  pub begin_unlike : told ≡ None → Begins told t rf cm h how (ended_state (answer.Refused unwritten.BadRooms))
  begin_unlike m =
      record {
        by = λ q lo l n i p few enough.
            let a : Asking = asking t rf cm q lo l h how in
            record {
              by = λ rows old k.
                  answers a rows old old _ (due_contig a rows (length old) (width_is how.width p.narrowest p.widest) (told_none _ _ (told_is a i ∙ m))) refl;
            };
      }

  pub begin_goes : {x : List ℕ} {k : ℕ} (read : Bool) → told ≡ Some read → Writes [] 0 (before_parts t rf cm (rest_head h) h.features how) x k
      → Begins told t rf cm h how (staged_state false 0 k 0 read true)
  unfolding text_from
  begin_goes {x} {k} read m w =
      record {
        by = λ q lo l n i p few enough.
            let a : Asking = asking t rf cm q lo l h how in
            let said = told_some (contig_lies a) (contig_formed a) read (told_is a i ∙ m) in
            let lies : contig_lies a ≡ true = said.0 in
            let z : h.features - 0 ≡ h.features = sub-zero h.features in
            record {
              by = λ rows old y.
                  record {
                    asked = record { passed = p; few = omega arith; enough = omega arith; lies = lies };
                    same = refl;
                    order = omega arith;
                    rooms = rw z;
                    fine = ap (λ (x : Bool). x && pass a rows (feature_fine how.width) 0) said.1;
                    kept = refl;
                    left = rw z (left_step (left_as (written_split t rf cm q lo l rows h how p.rooms) left_start) (nowhere w));
                  };
            };
      }

-- ---- a row is judged

-- a row after which another may stand lies in its rooms
pub row_fit : (t q : List ℕ) (f : Feature) (from m : ℕ) (o : Option ℕ) → length t ≤ most → o ≡ feature_next (feature_rooms t (numbers f) q) 0 from → o ≡ Some m
    → FeatureKnown t (numbers f) q 0
row_fit t q f from m o small e g = record { small = small; row = omega arith; inside = feature_in_lem (feature_rooms t (numbers f) q) 0 from m (sym e ∙ g) }

module _ (t q : List ℕ) (how : How) (s : State) where
  pub judge_outside : (lo : List ℕ) → Judges t q lo how s None (ended_state (answer.Refused unwritten.BadRooms))
  judge_outside lo =
      record {
        by = λ rf cm l h rows old out e less g p k.
            let m : length rows ≤ s.row = fetched_outside rows s.row (sym e) in
            absurd (omega (arith, k.asked.enough));
      }

  module _ (f : Feature) where
    -- the row among the flat numbers
    module _ (a : Asking) (rows : List Feature) (e : Some f ≡ slice_get rows s.row) where
      next_is : (o : Option ℕ) → o ≡ feature_next (feature_rooms a.texts (numbers f) a.qualifiers) 0 s.from → o ≡ feature_next (rows_of a rows) (8 * s.row) s.from
      next_is o i = i ∙ (next_of_row a.texts a.qualifiers rows s.row f (sym e) s.from ∙ next_alike (rows_of a rows) (8 * s.row) s.from)

      located_is : (told : Option Bool) → told ≡ location_told false a.locations (span_text a.texts f.location) f.row f.rows
          → told_by (feature_located (rows_of a rows) (8 * s.row)) (locates false (span_text a.texts f.location)) ≡ told
      located_is told n = rw (← (located_of_row a rows s.row f (sym e))) (sym n)

    pub judge_wrong : (lo : List ℕ) (o : Option ℕ) → o ≡ feature_next (feature_rooms t (numbers f) q) 0 s.from → o ≡ None
        → Judges t q lo how s (Some f) (ended_state (answer.Refused unwritten.BadRooms))
    judge_wrong lo o i j =
        record {
          by = λ rf cm l h rows old out e less g p k.
              let a : Asking = asking t rf cm q lo l h how in
              let z : false ≡ features_fine (rows_of a rows) 0 0 h.features =
              features_no (rows_of a rows) s.row h.features s.from _ o k.rooms less (next_is a rows e o i) j in
              record {
                held = answers a rows old out _ (due_row a rows k.asked (length old) (sym z)) k.same;
                nearer = rw (g, p) (omega arith);
              };
        }

    module _ (m : ℕ) (told : Option Bool) where
      pub judge_unlike : told ≡ None → JudgesTold t q how s f m told (ended_state (answer.Refused unwritten.BadRooms))
      judge_unlike u =
          record {
            by = λ lo o i j n.
                record {
                  by = λ rf cm l h rows old out e less g p k.
                      let a : Asking = asking t rf cm q lo l h how in
                      let z : false ≡ features_fine (rows_of a rows) 0 0 h.features =
                      features_unlocated (rows_of a rows) s.row h.features s.from _ o k.rooms less (next_is a rows e o i) m j
                      (told_none _ _ (located_is a rows e told n ∙ u)) in
                      record {
                        held = answers a rows old out _ (due_row a rows k.asked (length old) (sym z)) k.same;
                        nearer = rw (g, p) (omega arith);
                      };
                };
          }

      -- the row as the functions see it
      abbrev seen : Described
      seen = feature_in (feature_rooms t (numbers f) q) 0

      formed_by : (lo : List ℕ) (c read : Bool) → told ≡ location_told false lo (span_text t f.location) f.row f.rows → told ≡ Some read
          → c ≡ feature_of (rule.Fine how.width) seen → (read && c) ≡ feature_fine how.width seen
      unfolding feature_in
      formed_by lo c read n u e =
          rw e (ap (λ (x : Bool). x && feature_of (rule.Fine how.width) seen) (sym (told_some _ (locates false (span_text t f.location)) read (sym n ∙ u)).1) ∙ fine_is how.width seen)

      pub judge_goes : {x : List ℕ} {w : ℕ} (read fine kept b c d : Bool) → told ≡ Some read
          → fine ≡ (s.fine && b) → b ≡ (read && c) → c ≡ feature_of (rule.Fine how.width) seen
          → kept ≡ (s.kept && d) → d ≡ row_kept how seen
          → Writes [] s.at (feature_lines how.width seen) x w
          → JudgesTold t q how s f m told (staged_state false (s.row + 1) w m fine kept)
      judge_goes {x} {w} read fine kept b c d u ef eb ec ek ed wr =
          record {
            by = λ lo o i j n.
                record {
                  by = λ rf cm l h rows old out e less g p k.
                      let a : Asking = asking t rf cm q lo l h how in
                      let v : seen ≡ feature_at t q rows (8 * s.row) = feature_of_row t q rows s.row f (sym e) in
                      let formed : b ≡ feature_fine how.width seen = eb ∙ formed_by lo c read n u ec in
                      record {
                        held =
                            record {
                              asked = k.asked;
                              same = k.same;
                              order = omega arith;
                              rooms =
                                  features_go (rows_of a rows) s.row h.features s.from _ o k.rooms less (next_is a rows e o i) m j
                                  (told_some _ (locates false (span_text t f.location)) read (located_is a rows e told n ∙ u)).0;
                              fine = k.fine ∙ (ap (λ (y : Bool). s.fine && y) (pass_more a rows s.row (feature_fine how.width) less) ∙
                                  (and_assoc s.fine (feature_fine how.width (feature_at t q rows (8 * s.row)))
                                  (pass a rows (feature_fine how.width) (s.row + 1)) ∙ rw (ef, formed, v)));
                              kept = k.kept ∙ (ap (λ (y : Bool). s.kept && y) (pass_more a rows s.row (row_kept how) less) ∙
                                  (and_assoc s.kept (row_kept how (feature_at t q rows (8 * s.row))) (pass a rows (row_kept how) (s.row + 1)) ∙ rw (ek, ed, v)));
                              left = left_step (left_as (text_more a rows s.row less) k.left) (nowhere (rw v at wr));
                            };
                        nearer = rw (g, p) (omega arith);
                      };
                };
          }
