-- What one more field makes of a header that was gathered up to it. Assumes nothing.
use Prim.Native.Nat.{ℕ, ◌+◌, ◌≤◌, ◌<◌, ◌^◌}
use mathlib.Core.Path.{◌≡◌, refl, sym, ◌∙◌}
use mathlib.Core.Bool.{Bool, true, false}
use mathlib.Core.List.{List, [], ◌∷◌, ◌++◌, append-nil}
use native.Mathlib.Nat.{add-zero}
use native.Mathlib.Omega.{arith}
use lib.ListN.{length}
use lib.Dec.{eqb, ltb}
use borrow.Author.Tests.{ltb-true, ltb-false, lt-ltb, le-ltb}
use Rattle.spec_format.specs.Bytes.{pick, May, absent, is, bytes, same}
use Rattle.spec_format.specs.Header as format
use Rattle.spec_format.specs.Header.{latest, every, text_in, source_in, reference_in}
use Rattle.spec_format.specs.Rooms.{pieces_text, reference_pieces, comment_pieces, texts_of}
use Rattle.read_field_entry.specs.declared.Entry.{Entry}
use Rattle.read_field_optional.specs.declared.MayEntry.{MayEntry}
use Rattle.read_field_optional.specs.declared.MayEntry.TheVariants as may
use Rattle.read_field_optional.specs.Fields.{Stands, MayStand}
use Rattle.read_field_reference.specs.Standing.{stands_from, may_from}
use Rattle.read_field_any.specs.declared.Field.{Field}
use Rattle.read_field_any.specs.declared.Field.TheVariants as field
use Rattle.read_field_any.specs.Fields.{EntryIs, FieldIs}
use Rattle.read_field_all.specs.declared.MaySource.{MaySource}
use Rattle.read_field_all.specs.declared.Header.{Header}
use Rattle.read_field_all.specs.Notes.{chosen, entry_in, later, later_source, twice_by, entry_amount, reference_amount, noting, Fitting}
use Rattle.read_field_all.specs.Gathered.{SourceStands, Gathers}
use Rattle.read_field_all.proofs.Folds.{or_last, found, latest_one_more, count_one_more, bytes_one_more, there, last_there}

-- ---- one field by itself

chosen_stands : (s : List ℕ) (at : ℕ) (t : List ℕ) (e : Entry) (b : Bool) → Stands s at true t e → MayStand s at true (pick b (is t) absent) (chosen b e)
chosen_stands s at t e true w = w
chosen_stands s at t e false w = tt

-- the word has number n
abbrev pub Numbered : ℕ → List ℕ → Type 0
Numbered n word =
    (same (bytes "DEFINITION") word ≡ eqb n 0) × (same (bytes "ACCESSION") word ≡ eqb n 1) × (same (bytes "VERSION") word ≡ eqb n 2) ×
    (same (bytes "DBLINK") word ≡ eqb n 3) × (same (bytes "KEYWORDS") word ≡ eqb n 4) × (same (bytes "COMMENT") word ≡ eqb n 5)

-- an entry that is chosen by the number of its word stands where the one with that word does
module _ (s : List ℕ) (at next : ℕ) (x : format.Field) (n : ℕ) (word : List ℕ) (p : Numbered n word) where
  word_stands : (w : List ℕ) (k : ℕ) (e : Entry) → same w word ≡ eqb n k → EntryIs s at next w x e → MayStand s at true (text_in word x) (chosen (eqb n k) e)
  word_stands w k e q h = rw (h.is, q) (chosen_stands s at h.text e (eqb n k) h.stands)

  pub entry_stands : (f : Field) → FieldIs s at next x f → MayStand s at true (text_in word x) (entry_in n f)
  entry_stands (field.Definition e) h = word_stands (bytes "DEFINITION") 0 e p.0 h
  entry_stands (field.Accession e) h = word_stands (bytes "ACCESSION") 1 e p.1 h
  entry_stands (field.Version e) h = word_stands (bytes "VERSION") 2 e p.2 h
  entry_stands (field.Dblink e) h = word_stands (bytes "DBLINK") 3 e p.3 h
  entry_stands (field.Keywords e) h = word_stands (bytes "KEYWORDS") 4 e p.4 h
  entry_stands (field.Source text organism) h = rw h.is tt
  entry_stands (field.Reference entries size) h = rw h.is tt
  entry_stands (field.Comment e) h = word_stands (bytes "COMMENT") 5 e p.5 h
  entry_stands field.Dropped h = rw h tt

module _ (s : List ℕ) (at next : ℕ) (x : format.Field) where
  -- how many references there are in one field, and how long
  reference_adds : (f : Field) → FieldIs s at next x f
      → ((reference_amount f).count ≡ length (found (reference_in x))) × ((reference_amount f).bytes ≡ length (texts_of reference_pieces (found (reference_in x))))
  unfolding texts_of
  reference_adds (field.Definition e) h = rw h.is (refl, refl)
  reference_adds (field.Accession e) h = rw h.is (refl, refl)
  reference_adds (field.Version e) h = rw h.is (refl, refl)
  reference_adds (field.Dblink e) h = rw h.is (refl, refl)
  reference_adds (field.Keywords e) h = rw h.is (refl, refl)
  reference_adds (field.Source text organism) h = rw h.is (refl, refl)
  reference_adds (field.Reference entries size) h = rw (h.is, append-nil (pieces_text (reference_pieces h.the))) (refl, h.known.sized)
  reference_adds (field.Comment e) h = rw h.is (refl, refl)
  reference_adds field.Dropped h = rw h (refl, refl)

  -- what a field adds lies inside it, and is one at most
  adds_little : (f : Field) → FieldIs s at next x f → at < next
      → ((reference_amount f).bytes + (entry_amount (entry_in 5 f)).bytes + at ≤ next) × ((reference_amount f).count + (entry_amount (entry_in 5 f)).count ≤ 1)
  adds_little (field.Definition e) h l = (omega arith, omega arith)
  adds_little (field.Accession e) h l = (omega arith, omega arith)
  adds_little (field.Version e) h l = (omega arith, omega arith)
  adds_little (field.Dblink e) h l = (omega arith, omega arith)
  adds_little (field.Keywords e) h l = (omega arith, omega arith)
  adds_little (field.Source text organism) h l = (omega arith, omega arith)
  adds_little (field.Reference entries size) h l = (omega (arith, h.known.small), omega arith)
  adds_little (field.Comment e) h l = (omega (arith, h.until, h.stands.from, h.stands.small), omega arith)
  adds_little field.Dropped h l = (omega arith, omega arith)

module _ (s : List ℕ) (at : ℕ) where
  entry_count : (t : May (List ℕ)) (e : MayEntry) → MayStand s at true t e → (entry_amount e).count ≡ length (found t)
  entry_count absent may.Absent h = refl
  entry_count absent (may.Is e) h = absurd h
  entry_count (is t) may.Absent h = absurd h
  entry_count (is t) (may.Is e) h = refl

  entry_size : (t : May (List ℕ)) (e : MayEntry) → MayStand s at true t e → (entry_amount e).bytes ≡ length (texts_of comment_pieces (found t))
  unfolding texts_of pieces_text
  entry_size absent may.Absent h = refl
  entry_size absent (may.Is e) h = absurd h
  entry_size (is t) may.Absent h = absurd h
  entry_size (is t) (may.Is e) h = h.sized ∙ sym (rw (append-nil (t ++ []), append-nil t))

  -- the later one counts
  later_stands : (f : format.Field → May (List ℕ)) (pre : List format.Field) (x : format.Field) (m n : MayEntry) → MayStand s at true (latest f pre) m → MayStand s at true (f x) n
      → MayStand s at true (latest f (pre ++ x ∷ [])) (later m n)
  later_stands f pre x m n h k = rw (latest_one_more f x pre) (go (f x) n k)
    where
      go : (p : May (List ℕ)) (n : MayEntry) → MayStand s at true p n → MayStand s at true (or_last (latest f pre) p) (later m n)
      go absent may.Absent k = h
      go absent (may.Is e) k = absurd k
      go (is t) may.Absent k = absurd k
      go (is t) (may.Is e) k = k

  module _ (f : format.Field → May (List ℕ)) (pre : List format.Field) (x : format.Field) where
    twice_more : (b : Bool) (m n : MayEntry) → b ≡ ltb 1 (length (every f pre)) → MayStand s at true (latest f pre) m → MayStand s at true (f x) n
        → twice_by b m n ≡ ltb 1 (length (every f (pre ++ x ∷ [])))
    twice_more b m n e h k = rw (count_one_more f x pre) (go (f x) n k (latest f pre) m h (last_there f pre))
      where
        go : (p : May (List ℕ)) (n : MayEntry) → MayStand s at true p n → (o : May (List ℕ)) (m : MayEntry) → MayStand s at true o m → ltb 0 (length (every f pre)) ≡ there o
            → twice_by b m n ≡ ltb 1 (length (every f pre) + length (found p))
        go absent may.Absent k o m h l = rw (add-zero (length (every f pre))) e
        go absent (may.Is d) k o m h l = absurd k
        go (is t) may.Absent k o m h l = absurd k
        go (is t) (may.Is d) k absent may.Absent h l = sym (le-ltb 1 (length (every f pre) + 1) (omega (arith, ltb-false 0 (length (every f pre)) l)))
        go (is t) (may.Is d) k absent (may.Is c) h l = absurd h
        go (is t) (may.Is d) k (is u) may.Absent h l = absurd h
        go (is t) (may.Is d) k (is u) (may.Is c) h l = sym (lt-ltb 1 (length (every f pre) + 1) (omega (arith, ltb-true 0 (length (every f pre)) l)))

  source_stands : (pre : List format.Field) (x : format.Field) (m : MaySource) (i next : ℕ) (f : Field) → at ≤ i → SourceStands s at (latest source_in pre) m → FieldIs s i next x f
      → SourceStands s at (latest source_in (pre ++ x ∷ [])) (later_source m f)
  source_stands pre x m i next f l h k = rw (latest_one_more source_in x pre) (go f k)
    where
      go : (f : Field) → FieldIs s i next x f → SourceStands s at (or_last (latest source_in pre) (source_in x)) (later_source m f)
      go (field.Definition e) k = rw k.is h
      go (field.Accession e) k = rw k.is h
      go (field.Version e) k = rw k.is h
      go (field.Dblink e) k = rw k.is h
      go (field.Keywords e) k = rw k.is h
      go (field.Source text organism) k = rw k.is (stands_from s at i true k.the.text text l k.stands, may_from s at i true k.the.organism organism l k.may)
      go (field.Reference entries size) k = rw k.is h
      go (field.Comment e) k = rw k.is h
      go field.Dropped k = rw k h

-- ---- the header with one more field

module _ (Ended : Type 0) (s : List ℕ) (at : ℕ) (pre : List format.Field) (h : Header) (g : Gathers Ended s at pre h) (x : format.Field) (next : ℕ) (f : Field)
    (k : FieldIs s h.next next x f) (l : h.next < next) where
  pub notes_fit : next < 2 ^ 64 → Fitting h f
  notes_fit b =
      let little = adds_little s h.next next x f k l in
      record {
        references = omega (arith, g.few);
        reference_bytes = omega (arith, g.small);
        comments = omega (arith, g.few);
        comment_bytes = omega (arith, g.small);
      }

  found_here : (n : ℕ) (word : List ℕ) → Numbered n word → MayStand s at true (text_in word x) (entry_in n f)
  found_here n word p = may_from s at h.next true (text_in word x) (entry_in n f) g.from (entry_stands s h.next next x n word p f k)

  entry_more : (n : ℕ) (word : List ℕ) (m : MayEntry) → Numbered n word → MayStand s at true (latest (text_in word) pre) m
      → MayStand s at true (latest (text_in word) (pre ++ x ∷ [])) (later m (entry_in n f))
  entry_more n word m p w = later_stands s at (text_in word) pre x m (entry_in n f) w (found_here n word p)

  pub notes_more : (More : Type 0) → More → next ≤ length s → Gathers More s at (pre ++ x ∷ []) (noting h f next)
  unfolding noting
  notes_more More more b =
      let comment = found_here 5 (bytes "COMMENT") (refl, refl, refl, refl, refl, refl) in
      let little = adds_little s h.next next x f k l in
      record {
        ended = more;
        definition = entry_more 0 (bytes "DEFINITION") h.definition (refl, refl, refl, refl, refl, refl) g.definition;
        accession = entry_more 1 (bytes "ACCESSION") h.accession (refl, refl, refl, refl, refl, refl) g.accession;
        version = entry_more 2 (bytes "VERSION") h.version (refl, refl, refl, refl, refl, refl) g.version;
        dblink = entry_more 3 (bytes "DBLINK") h.dblink (refl, refl, refl, refl, refl, refl) g.dblink;
        keywords = entry_more 4 (bytes "KEYWORDS") h.keywords (refl, refl, refl, refl, refl, refl) g.keywords;
        source = source_stands s at pre x h.source h.next next f g.from g.source k;
        twice =
            twice_more s at (text_in (bytes "DEFINITION")) pre x h.twice h.definition (entry_in 0 f) g.twice g.definition
            (found_here 0 (bytes "DEFINITION") (refl, refl, refl, refl, refl, refl));
        references = omega (arith, g.references, (reference_adds s h.next next x f k).0, count_one_more reference_in x pre);
        reference_bytes = omega (arith, g.reference_bytes, (reference_adds s h.next next x f k).1, bytes_one_more reference_in x pre reference_pieces);
        comments = omega (arith, g.comments, entry_count s at (text_in (bytes "COMMENT") x) (entry_in 5 f) comment, count_one_more (text_in (bytes "COMMENT")) x pre);
        comment_bytes =
            omega (arith, g.comment_bytes, entry_size s at (text_in (bytes "COMMENT") x) (entry_in 5 f) comment, bytes_one_more (text_in (bytes "COMMENT")) x pre comment_pieces);
        from = omega (arith, g.from);
        within = b;
        small = omega (arith, g.small);
        few = omega (arith, g.few);
      }
