-- The second walk over the header, one field at a time. Assumes nothing.
use Prim.Native.Nat.{ℕ, ◌+◌, ◌-◌, ◌<◌, ◌^◌}
use mathlib.Core.Path.{◌≡◌, refl, sym, ap, ◌∙◌, subst}
use mathlib.Core.Bool.{Bool, true, false}
use mathlib.Core.List.{List, [], ◌∷◌, ◌++◌, append_assoc, append-nil}
use native.Mathlib.Omega.{arith}
use lib.ListN.{length, drop}
use Rattle.spec_format.specs.Bytes.{May, absent, is}
use Rattle.spec_format.specs.Table.{Reference}
use Rattle.spec_format.specs.Header as format
use Rattle.spec_format.specs.Header.{header_field, every}
use Rattle.spec_format.specs.Rooms.{Piece, pieces_text, pieces_row, reference_pieces, comment_pieces, texts_of, rows_of}
use Rattle.spec_loops.specs.Loops.{try_members_no, try_members_cut}
use Rattle.spec_loops.proofs.Loops.{try_members_more}
use Rattle.spec_loops.proofs.Shrinks.{header_small}
use Rattle.read_field_entry.specs.declared.Entry.{Entry}
use Rattle.read_field_optional.specs.declared.MayEntry.{MayEntry}
use Rattle.read_field_optional.specs.declared.MayEntry.TheVariants as may
use Rattle.read_field_optional.specs.Fields.{Stands, MayStand}
use Rattle.read_field_reference.specs.declared.ReferenceEntries.{ReferenceEntries}
use Rattle.read_field_reference.specs.References.{ReferenceStands}
use Rattle.read_field_any.specs.declared.Field.{Field}
use Rattle.read_field_any.specs.declared.Field.TheVariants as field
use Rattle.read_field_any.specs.declared.FieldAt.{FieldAt}
use Rattle.read_field_any.specs.declared.FieldAt.TheVariants as read
use Rattle.read_field_any.specs.Fields.{FieldIs, FieldKnown, FieldAs, FieldRead}
use Rattle.read_field_all.specs.Notes.{entry_in}
use Rattle.read_field_all.specs.Gathered.{fields_at}
use Rattle.read_field_row.specs.declared.Pens.{Pens}
use Rattle.read_field_row.specs.Pieces.{entry_text, may_text, reference_of, comment_found, Ready, MayReady, ReferenceReady}
use Rattle.read_field_row.specs.Puts.{bytes_of, numbers_of, Room, Puts}
use Rattle.read_field_rows.specs.Pieces.{all_pieces, one_pieces, wanted_in, wanted, reference_found, found_in, FieldReady}
use Rattle.read_field_rows.specs.Puts.{begun, Laid}
use Rattle.read_field_row.specs.Putting.{bytes_length, numbers_length, bytes_append, numbers_append, text_append, rows_append, puts_none, puts_append}

-- ---- what stands in a field is found there

module _ (s : List ℕ) (at : ℕ) (keep : Bool) where
  ready : (t : List ℕ) (e : Entry) → Stands s at keep t e → Ready s keep e
  ready t e h =
      record {
        within = omega (arith, h.ahead, h.within);
        gets = rw h.again tt;
        sized = rw h.again h.sized;
        small = omega (arith, h.small, h.within);
      }

  text_is : (t : List ℕ) (e : Entry) → Stands s at keep t e → t ≡ entry_text s keep e
  text_is t e h = rw h.again

  may_be_ready : (t : May (List ℕ)) (e : MayEntry) → MayStand s at keep t e → MayReady s keep e
  may_be_ready absent may.Absent h = tt
  may_be_ready absent (may.Is e) h = absurd h
  may_be_ready (is t) may.Absent h = tt
  may_be_ready (is t) (may.Is e) h = ready t e h

  may_is : (t : May (List ℕ)) (e : MayEntry) → MayStand s at keep t e → t ≡ may_text s keep e
  may_is absent may.Absent h = refl
  may_is absent (may.Is e) h = absurd h
  may_is (is t) may.Absent h = absurd h
  may_is (is t) (may.Is e) h = ap is (text_is t e h)

module _ (s : List ℕ) (at : ℕ) (x : Reference) (e : ReferenceEntries) (h : ReferenceStands s at x e) where
  reference_ready : ReferenceReady s e
  reference_ready =
      record {
        text = ready s at true x.text e.text h.text;
        authors = may_be_ready s at true x.authors e.authors h.authors;
        consrtm = may_be_ready s at true x.consrtm e.consrtm h.consrtm;
        title = ready s at true x.title e.title h.title;
        journal = may_be_ready s at true x.journal e.journal h.journal;
        pubmed = may_be_ready s at false x.pubmed e.pubmed h.pubmed;
        remark = may_be_ready s at true x.remark e.remark h.remark;
      }

  reference_is : reference_pieces x ≡ reference_pieces (reference_of s e)
  reference_is =
      cc (
        text_is s at true x.text e.text h.text,
        may_is s at true x.authors e.authors h.authors,
        may_is s at true x.consrtm e.consrtm h.consrtm,
        text_is s at true x.title e.title h.title,
        may_is s at true x.journal e.journal h.journal,
        may_is s at false x.pubmed e.pubmed h.pubmed,
        may_is s at true x.remark e.remark h.remark,
      )

module _ (s : List ℕ) (at next : ℕ) (x : format.Field) where
  field_ready : (f : Field) → FieldIs s at next x f → FieldReady s f
  field_ready (field.Definition e) h = tt
  field_ready (field.Accession e) h = tt
  field_ready (field.Version e) h = tt
  field_ready (field.Dblink e) h = tt
  field_ready (field.Keywords e) h = tt
  field_ready (field.Source text organism) h = tt
  field_ready (field.Reference entries size) h = reference_ready s at h.the entries h.known.stands
  field_ready (field.Comment e) h = ready s at true h.text e h.stands
  field_ready field.Dropped h = tt

  reference_found_lem : (f : Field) → FieldIs s at next x f → wanted_in false x ≡ reference_found s f
  reference_found_lem (field.Definition e) h = rw h.is
  reference_found_lem (field.Accession e) h = rw h.is
  reference_found_lem (field.Version e) h = rw h.is
  reference_found_lem (field.Dblink e) h = rw h.is
  reference_found_lem (field.Keywords e) h = rw h.is
  reference_found_lem (field.Source text organism) h = rw h.is
  reference_found_lem (field.Reference entries size) h = rw h.is (reference_is s at h.the entries h.known.stands)
  reference_found_lem (field.Comment e) h = rw h.is
  reference_found_lem field.Dropped h = rw h

  comment_found_lem : (f : Field) → FieldIs s at next x f → wanted_in true x ≡ comment_found s (entry_in 5 f)
  comment_found_lem (field.Definition e) h = rw h.is
  comment_found_lem (field.Accession e) h = rw h.is
  comment_found_lem (field.Version e) h = rw h.is
  comment_found_lem (field.Dblink e) h = rw h.is
  comment_found_lem (field.Keywords e) h = rw h.is
  comment_found_lem (field.Source text organism) h = rw h.is
  comment_found_lem (field.Reference entries size) h = rw h.is
  comment_found_lem (field.Comment e) h = rw h.is (ap comment_pieces (text_is s at true h.text e h.stands))
  comment_found_lem field.Dropped h = rw h

  found_is : (b : Bool) (f : Field) → FieldIs s at next x f → wanted_in b x ≡ found_in s b f
  found_is true f h = comment_found_lem f h
  found_is false f h = reference_found_lem f h

pub comment_ready : (s : List ℕ) (f : Field) → FieldReady s f → MayReady s true (entry_in 5 f)
comment_ready s (field.Definition e) h = tt
comment_ready s (field.Accession e) h = tt
comment_ready s (field.Version e) h = tt
comment_ready s (field.Dblink e) h = tt
comment_ready s (field.Keywords e) h = tt
comment_ready s (field.Source text organism) h = tt
comment_ready s (field.Reference entries size) h = tt
comment_ready s (field.Comment e) h = h
comment_ready s field.Dropped h = tt

module _ (s : List ℕ) (f : Field) (e : ReferenceEntries) (n : ℕ) (q : f ≡ field.Reference e n) where
  pub reference_entries_lem : FieldReady s f → ReferenceReady s e
  reference_entries_lem h = subst (FieldReady s) q h

  pub reference_room : (pens : Pens) → Room pens (reference_found s f) → Room pens (reference_pieces (reference_of s e))
  reference_room pens h = subst (λ (x : Field). Room pens (reference_found s x)) q h

module _ (s : List ℕ) (b : Bool) (f : Field) (m : MayEntry) (e : b ≡ true) (q : m ≡ entry_in 5 f) where
  pub comment_room : (pens : Pens) → Room pens (found_in s b f) → Room pens (comment_found s m)
  comment_room pens h = let w : Room pens (found_in s true f) = rw e at h in rw q w

  pub comment_put : {t r u v : List ℕ} {pens to : Pens} → Puts t r pens (comment_found s m) u v to → Puts t r pens (found_in s b f) u v to
  comment_put p = rw (e, ← q) p

-- ---- the walk

wanted_more : (b : Bool) (x : format.Field) (xs : List format.Field) → wanted b (x ∷ xs) ≡ wanted_in b x ++ wanted b xs
unfolding all_pieces
wanted_more true x xs = refl
wanted_more false x xs = refl

wanted_none : (b : Bool) → wanted b [] ≡ []
unfolding all_pieces
wanted_none true = refl
wanted_none false = refl

-- the pieces that were put so far, and those that are still to come, are the whole
pub record Walking (s : List ℕ) (b : Bool) (t r : List ℕ) (start : Pens) (whole : List Piece) (u v : List ℕ) (pens : Pens) (i : ℕ) : Type 0 where
  pub done : List Piece
  pub is : whole ≡ done ++ wanted b (fields_at (drop i s))
  pub puts : Puts t r start done u v pens

pub walking_start : (s : List ℕ) (b : Bool) (t r : List ℕ) (start : Pens) (at : ℕ) → Walking s b t r start (wanted b (fields_at (drop at s))) t r start at
walking_start s b t r start at = record { done = []; is = refl; puts = puts_none t r start }

module _ (s : List ℕ) (b : Bool) (t r : List ℕ) (start : Pens) (whole : List Piece) (u v : List ℕ) (pens : Pens) (i : ℕ) (w : Walking s b t r start whole u v pens i)
    (a : FieldAt) (k : FieldRead s i (header_field (drop i s)) a) where
  walked : fields_at (drop i s) ≡ [] → Puts t r start whole u v pens
  walked e =
      let f : whole ≡ w.done = w.is ∙ ap (λ (fs : List format.Field). w.done ++ wanted b fs) e ∙ ap (λ (ps : List Piece). w.done ++ ps) (wanted_none b) ∙ append-nil w.done in
      rw f w.puts

  pub walking_no : a ≡ read.No → Puts t r start whole u v pens
  walking_no e = walked (try_members_no header_field (drop i s) (subst (λ (x : FieldAt). FieldAs s i (header_field (drop i s)) x) e k.is))

  pub walking_cut : a ≡ read.Cut → Puts t r start whole u v pens
  walking_cut e = walked (try_members_cut header_field (drop i s) (subst (λ (x : FieldAt). FieldAs s i (header_field (drop i s)) x) e k.is))

  module _ (f : Field) (next : ℕ) (e : a ≡ read.Got f next) where
    pub walking_known : FieldKnown s i (header_field (drop i s)) f next
    walking_known = subst (λ (x : FieldAt). FieldAs s i (header_field (drop i s)) x) e k.is

    pub walking_ready : FieldReady s f
    walking_ready = let h = walking_known in field_ready s i next h.the f h.one

    next_pieces : wanted b (fields_at (drop i s)) ≡ found_in s b f ++ wanted b (fields_at (drop next s))
    next_pieces =
        let h = walking_known in
        ap (wanted b) (try_members_more header_field header_small (drop i s) h.the (drop next s) h.is) ∙ wanted_more b h.the (fields_at (drop next s)) ∙
        ap (λ (ps : List Piece). ps ++ wanted b (fields_at (drop next s))) (found_is s i next h.the b f h.one)

    split : whole ≡ (w.done ++ found_in s b f) ++ wanted b (fields_at (drop next s))
    split =
        w.is ∙ ap (λ (ps : List Piece). w.done ++ ps) next_pieces ∙ sym (append_assoc w.done (found_in s b f) (wanted b (fields_at (drop next s))))

    pub walking_room : Room start whole → Room pens (found_in s b f)
    walking_room h =
        let rest = wanted b (fields_at (drop next s)) in
        record {
          text =
              omega (arith, h.text, ap bytes_of split, bytes_append (w.done ++ found_in s b f) (wanted b (fields_at (drop next s))), bytes_append w.done (found_in s b f), w.puts.text);
          row =
              omega (
                arith,
                h.row,
                ap numbers_of split,
                numbers_append (w.done ++ found_in s b f) (wanted b (fields_at (drop next s))),
                numbers_append w.done (found_in s b f),
                w.puts.row,
              );
        }

    pub walking_more : (x y : List ℕ) (to : Pens) → Puts u v pens (found_in s b f) x y to → Walking s b t r start whole x y to next
    walking_more x y to p = record { done = w.done ++ found_in s b f; is = split; puts = puts_append w.puts p }

-- ---- rows with their texts

module _ {A : Type 0} (g : format.Field → May A) (f : A → List Piece) where
  texts_are : (fs : List format.Field) → texts_of f (every g fs) ≡ pieces_text (all_pieces g f fs)
  unfolding every texts_of all_pieces pieces_text
  texts_are [] = refl
  texts_are (x ∷ fs) = go (g x) (texts_are fs)
    where
      go : (o : May A) → texts_of f (every g fs) ≡ pieces_text (all_pieces g f fs)
          → texts_of f (elim o [ is a ↦ a ∷ every g fs | absent ↦ every g fs ]) ≡ pieces_text (one_pieces g f o ++ all_pieces g f fs)
      go absent e = e
      go (is a) e = ap (λ (l : List ℕ). pieces_text (f a) ++ l) e ∙ sym (text_append (f a) (all_pieces g f fs))

  rows_are : (at : ℕ) (fs : List format.Field) → rows_of f at (every g fs) ≡ pieces_row at (all_pieces g f fs)
  unfolding every rows_of all_pieces pieces_row
  rows_are at [] = refl
  rows_are at (x ∷ fs) = go (g x) (λ n. rows_are n fs)
    where
      go : (o : May A) → ((n : ℕ) → rows_of f n (every g fs) ≡ pieces_row n (all_pieces g f fs))
          → rows_of f at (elim o [ is a ↦ a ∷ every g fs | absent ↦ every g fs ]) ≡ pieces_row at (one_pieces g f o ++ all_pieces g f fs)
      go absent e = e at
      go (is a) e =
          ap (λ (l : List ℕ). pieces_row at (f a) ++ l) (e (at + length (pieces_text (f a)))) ∙
          ap (λ (n : ℕ). pieces_row at (f a) ++ pieces_row (at + n) (all_pieces g f fs)) (bytes_length (f a)) ∙ sym (rows_append at (f a) (all_pieces g f fs))

  module _ (fs : List format.Field) (place : ℕ) where
    pub laid_room : place + length (texts_of f (every g fs)) < 2 ^ 64 → length (rows_of f place (every g fs)) < 2 ^ 64 → Room (begun place) (all_pieces g f fs)
    laid_room h k =
        record {
          text = omega (arith, h, ap length (texts_are fs), bytes_length (all_pieces g f fs));
          row = omega (arith, k, ap length (rows_are place fs), numbers_length place (all_pieces g f fs));
        }

    pub laid : (t r u v : List ℕ) (to : Pens) → Puts t r (begun place) (all_pieces g f fs) u v to → Laid f t r place (every g fs) u v to.text
    laid t r u v to p =
        record {
          texts = record { is = rw (texts_are fs) p.texts; to = omega (arith, p.text, ap length (texts_are fs), bytes_length (all_pieces g f fs)) };
          rows = rw (rows_are place fs) p.rows;
        }
