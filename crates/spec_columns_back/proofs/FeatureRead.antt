-- EVERY FEATURE with the public columns, its location over any number of lines, is read as its key, the joined location with its rows, and its qualifiers.
use Rattle.std.specs.Prelude.{ℕ, suc, ◌-◌, ◌≤◌, true, false, not, ◌≡◌, refl, List, [], ◌∷◌, ◌++◌, length, drop}
use Rattle.std.proofs.Common.{arith, append_assoc}
use Rattle.std.proofs.lemmas.List.{length-replicate}
use Rattle.spec_format.specs.Bytes.{spaces, some, starts, all, each, concat, visible, slash, but}
use Rattle.spec_format.specs.Readers.{got, many0}
use Rattle.spec_format.specs.Features.{bare, qualifier, kind_text, feature_from, feature}
use Rattle.spec_format.specs.Location.{locates}
use Rattle.spec_format.specs.Table.{Qualifier}
use Rattle.spec_public.specs.Public.{from_left, blank_at, feature_columns, continued}
use Rattle.spec_location.specs.Bytes.{locates_visible, locates_slash}
use Rattle.spec_texts_back.specs.Tests.{and_left, and_right, and_both, all_head, all_left, all_right, all_imp, starts_more}
use Rattle.spec_texts_back.specs.Pieces.{spaces_back, no_end, visible_no_end}
use Rattle.spec_texts_back.specs.FieldBack.{line_starts}
use Rattle.spec_texts_back.specs.BareBack.{ends}
use Rattle.spec_feature_names.specs.Taken.{any_kind}
use Rattle.spec_record_back.specs.FeatureBack.{feature_steps}
use Rattle.spec_columns_back.specs.Cells.{cell_short}
use Rattle.spec_columns_back.specs.Further.{ended, goes_on}
use Rattle.spec_columns_back.proofs.Further.{bare_read}
use Rattle.spec_columns_back.specs.FeatureRead.{line_is, seen_starts, feature_of}

-- ---- a feature

-- further lines of a location
parts_go : (ms : List (List ℕ)) → all visible (concat ms) ≡ true → all (but 47) (concat ms) ≡ true → all goes_on ms ≡ true
parts_go [] h k = refl
parts_go (m ∷ ms) h k =
    and_both (goes_on m) (all goes_on ms)
    (and_both (not (starts slash m)) (all no_end m) (no_slash m (all_left (but 47) m (concat ms) k)) (all_imp visible no_end visible_no_end m (all_left visible m (concat ms) h)))
    (parts_go ms (all_right visible m (concat ms) h) (all_right (but 47) m (concat ms) k))
  where
    no_slash : (m : List ℕ) → all (but 47) m ≡ true → not (starts slash m) ≡ true
    no_slash [] h = refl
    no_slash (b ∷ m) h = all_head (but 47) b m h

key_short : (key l line : List ℕ) → feature_columns key l line ≡ true → length key ≤ 15
key_short key l line h = cell_short 15 (drop 5 line) key (spaces (15 - length key)) (and_left (from_left 6 20 key line) _ (and_right (blank_at 1 5 line) _ h))

lines_group : (a k g l e m s : List ℕ) → ((a ++ (k ++ (g ++ l))) ++ e) ++ m ++ s ≡ a ++ (k ++ (g ++ ((l ++ e) ++ (m ++ s))))
lines_group a k g l e m s = simp append_assoc

-- A FEATURE WITH THE PUBLIC COLUMNS is read; s is what stands after its location, of which qs are read
pub feature_read_lem :
    (key l line : List ℕ) (ms lines : List (List ℕ)) (s rest : List ℕ) (qs : List Qualifier) → feature_columns key l line ≡ true →
    continued 22 ms lines ≡ true → kind_text key ≡ true → locates false (l ++ concat ms) ≡ true → ends 21 s ≡ true →
    many0 (qualifier 21) s ≡ got qs rest →
    feature (each ended (line ∷ lines) ++ s) ≡ got (feature_of key (l ++ concat ms) qs) rest
unfolding feature_from
feature_read_lem key l line ms lines s rest qs h c k t e q =
    let n : length key ≤ 15 = key_short key l line h in
    let gap : List ℕ = spaces (suc (15 - length key)) in
    let x₃ : List ℕ = ended l ++ (each ended lines ++ s) in
    let v : all visible (l ++ concat ms) ≡ true = locates_visible false (l ++ concat ms) t in
    let o : all (but 47) (l ++ concat ms) ≡ true = locates_slash (l ++ concat ms) t in
    let lv : all visible l ≡ true = all_left visible l (concat ms) v in
    let g : all goes_on ms ≡ true = parts_go ms (all_right visible l (concat ms) v) (all_right (but 47) l (concat ms) o) in
    let kv : all visible key ≡ true = and_left (all visible key) _ (and_right (some key) _ k) in
    let b : bare 21 x₃ ≡ got (l ++ concat ms) s = bare_read 21 s e l ms lines c (all_imp visible no_end visible_no_end l lv) g in
    rw (line_is key l line h, lines_group (spaces 5) key gap l (10 ∷ []) (each ended lines) s)
    (feature_steps (spaces 5 ++ (key ++ (gap ++ x₃))) (key ++ (gap ++ x₃)) (gap ++ x₃) x₃ (spaces 5) key gap
    (feature_of key (l ++ concat ms) qs) rest
    (spaces_back 4 (key ++ (gap ++ x₃)) (starts_more (but 32) key (gap ++ x₃) (seen_starts key (and_left (some key) _ k) kv)))
    (any_kind key (gap ++ x₃) k refl)
    (spaces_back (15 - length key) x₃ (starts_more (but 32) (ended l) (each ended lines ++ s) (line_starts l [] lv)))
    (rw length-replicate (omega (arith, length-replicate {A = ℕ} (15 - length key) 32)))
    (rw (b, t, q)))
