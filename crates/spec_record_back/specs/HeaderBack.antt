-- The header: each entry is read as it was written, and together they give the table's header again.
use Prim.Native.Nat.{ℕ, ◌<◌}
use Rattle.std.proofs.Common.{arith, ◌∙◌, lit<}
use Rattle.std.specs.Prelude.{Bool, ◌&&◌, ◌≡◌, length}
use Rattle.std.proofs.Math.Bool.{true, false}
use Rattle.std.proofs.Math.Path.{refl}
use mathlib.Core.List.{List, [], ◌∷◌, ◌++◌, append_assoc, append-nil, map}
use Rattle.spec_format.specs.Bytes.{pick, May, absent, is, bytes, starts, all, same, but, each}
use Rattle.spec_format.specs.Utf8.{utf8}
use Rattle.spec_format.specs.Readers.{got, no, tag, while_fits}
use Rattle.spec_format.specs.Header.{field, reference, source, Field, entry_of, source_of, reference_of, header_field, latest, every, text_in, source_in, reference_in}
use Rattle.spec_format.specs.Table.{Source, Reference, Table}
use Rattle.spec_format.specs.Write.{field_lines, maybe_lines, source_lines, reference_lines, header_lines}
use Rattle.spec_format.specs.WellFormed.{if_is, source_texts, reference_texts, header_texts}
use Rattle.spec_format.specs.Keeping.{header_kept, pubmed_kept}
use Rattle.spec_loops.specs.Loops.{tries_no}
use Rattle.spec_loops.proofs.Loops.{tries_more}
use Rattle.spec_loops.proofs.Shrinks.{header_small}
use Rattle.spec_texts_back.specs.Tests.{and_left, and_right, and_both, all_head, all_tail}
use Rattle.spec_texts_back.proofs.FieldBack.{field_back}
use Rattle.spec_record_back.specs.ReferenceBack.{no_indent, other_word, after, begins, field_test, source_back, reference_back, after_reference, begins_reference}

-- ---- which reader the word chooses: those before it say no

no_source : (s : List ℕ) → field 0 (bytes "SOURCE") true s ≡ no → source s ≡ no
unfolding source
no_source s h = rw h

no_reference : (s : List ℕ) → field 0 (bytes "REFERENCE") true s ≡ no → reference s ≡ no
unfolding reference
no_reference s h = rw h

-- a text with that word is a header entry, whatever the text
First : List ℕ → Type 0
First word = (y t r : List ℕ) → field 0 word true (word ++ y) ≡ got t r → header_field (word ++ y) ≡ got (entry_of word t) r

apart : (v word y : List ℕ) → tag v (word ++ y) ≡ no → field 0 v true (word ++ y) ≡ no
apart v word y h = other_word v (word ++ y) h

definition : First (bytes "DEFINITION")
unfolding First header_field
definition y t r e = rw e

accession : First (bytes "ACCESSION")
unfolding First header_field tag
accession y t r e = rw (apart (bytes "DEFINITION") (bytes "ACCESSION") y refl, e)

version : First (bytes "VERSION")
unfolding First header_field tag
version y t r e = rw (apart (bytes "DEFINITION") (bytes "VERSION") y refl, apart (bytes "ACCESSION") (bytes "VERSION") y refl, e)

dblink : First (bytes "DBLINK")
unfolding First header_field tag
dblink y t r e =
    rw (
      apart (bytes "DEFINITION") (bytes "DBLINK") y refl,
      apart (bytes "ACCESSION") (bytes "DBLINK") y refl,
      apart (bytes "VERSION") (bytes "DBLINK") y refl,
      e,
    )

keywords : First (bytes "KEYWORDS")
unfolding First header_field tag
keywords y t r e =
    rw (
      apart (bytes "DEFINITION") (bytes "KEYWORDS") y refl,
      apart (bytes "ACCESSION") (bytes "KEYWORDS") y refl,
      apart (bytes "VERSION") (bytes "KEYWORDS") y refl,
      apart (bytes "DBLINK") (bytes "KEYWORDS") y refl,
      e,
    )

comment : First (bytes "COMMENT")
unfolding First header_field tag
comment y t r e =
    rw (
      apart (bytes "DEFINITION") (bytes "COMMENT") y refl,
      apart (bytes "ACCESSION") (bytes "COMMENT") y refl,
      apart (bytes "VERSION") (bytes "COMMENT") y refl,
      apart (bytes "DBLINK") (bytes "COMMENT") y refl,
      apart (bytes "KEYWORDS") (bytes "COMMENT") y refl,
      no_source (bytes "COMMENT" ++ y) (apart (bytes "SOURCE") (bytes "COMMENT") y refl),
      no_reference (bytes "COMMENT" ++ y) (apart (bytes "REFERENCE") (bytes "COMMENT") y refl),
      e,
    )

source_first : (y r : List ℕ) (x : Source) → source (bytes "SOURCE" ++ y) ≡ got x r → header_field (bytes "SOURCE" ++ y) ≡ got (source_of x) r
unfolding header_field tag
source_first y r x e =
    rw (
      apart (bytes "DEFINITION") (bytes "SOURCE") y refl,
      apart (bytes "ACCESSION") (bytes "SOURCE") y refl,
      apart (bytes "VERSION") (bytes "SOURCE") y refl,
      apart (bytes "DBLINK") (bytes "SOURCE") y refl,
      apart (bytes "KEYWORDS") (bytes "SOURCE") y refl,
      e,
    )

reference_first :
    (y r : List ℕ) (x : Reference) → reference (bytes "REFERENCE" ++ y) ≡ got x r → header_field (bytes "REFERENCE" ++ y) ≡ got (reference_of x) r
unfolding header_field tag
reference_first y r x e =
    rw (
      apart (bytes "DEFINITION") (bytes "REFERENCE") y refl,
      apart (bytes "ACCESSION") (bytes "REFERENCE") y refl,
      apart (bytes "VERSION") (bytes "REFERENCE") y refl,
      apart (bytes "DBLINK") (bytes "REFERENCE") y refl,
      apart (bytes "KEYWORDS") (bytes "REFERENCE") y refl,
      no_source (bytes "REFERENCE" ++ y) (apart (bytes "SOURCE") (bytes "REFERENCE") y refl),
      e,
    )

-- ---- entries one after the other

-- from s on the fields fs are read, and rest is left; s begins with no space
record Reads (s : List ℕ) (fs : List Field) (rest : List ℕ) : Type 0 where
  first : starts (but 32) s ≡ true
  read : while_fits header_field s ≡ got fs rest

reads_more :
    (x s : List ℕ) (f : Field) (fs : List Field) (rest : List ℕ) → header_field (x ++ s) ≡ got f s → starts (but 32) (x ++ s) ≡ true → Reads s fs rest →
    Reads (x ++ s) (f ∷ fs) rest
reads_more x s f fs rest e b h = record { first = b; read = rw (tries_more header_field header_small (x ++ s) f s e, h.read) }

-- what w writes of each x with p is read as g x
module _ {A : Type 0} (w : A → List ℕ) (g : A → Field) (p : A → Bool)
    (back : (x : A) (s : List ℕ) → p x ≡ true → starts (but 32) s ≡ true → header_field (w x ++ s) ≡ got (g x) s)
    (begun : (x : A) (s : List ℕ) → starts (but 32) (w x ++ s) ≡ true) where
  reads_each : (xs : List A) (s : List ℕ) (fs : List Field) (rest : List ℕ) → all p xs ≡ true → Reads s fs rest → Reads (each w xs ++ s) (map g xs ++ fs) rest
  reads_each [] s fs rest h r = r
  reads_each (x ∷ xs) s fs rest h r =
      let t = reads_each xs s fs rest (all_tail p x xs h) r in
      rw (append_assoc (w x) (each w xs) s)
      (reads_more (w x) (each w xs ++ s) (g x) (map g xs ++ fs) rest (back x (each w xs ++ s) (all_head p x xs h) t.first) (begun x (each w xs ++ s)) t)

-- ---- the kinds of entries

module _ (W : ℕ) where
  text_fine : List ℕ → Bool
  text_fine t = header_kept W t && utf8 t

  source_fine : Source → Bool
  source_fine x = source_texts (header_kept W) x && source_texts utf8 x

  reference_fine : Reference → Bool
  reference_fine x = reference_texts (header_kept W) x && (reference_texts utf8 x && pubmed_kept x)

  source_text : Source → List ℕ
  source_text x = field_lines W (bytes "SOURCE") x.text ++ maybe_lines W (bytes "  ORGANISM") x.organism

  entry_back :
      (word : List ℕ) → length word < 12 → First word → (t s : List ℕ) → text_fine t ≡ true → starts (but 32) s ≡ true →
      header_field (field_lines W word t ++ s) ≡ got (entry_of word t) s
  unfolding First text_fine
  entry_back word h f t s k fine =
      let e = field_back W 0 word t s true (omega arith) (and_left (header_kept W t) _ k) (and_right (header_kept W t) _ k) refl (no_indent 11 s fine) in
      rw (begins W word t s) (f (after W word t s) t s (rw (begins W word t s) at e))

  source_entry : (x : Source) (s : List ℕ) → source_fine x ≡ true → starts (but 32) s ≡ true → header_field (source_text x ++ s) ≡ got (source_of x) s
  unfolding source_fine source_text
  source_entry x s k fine =
      let y : List ℕ = maybe_lines W (bytes "  ORGANISM") x.organism ++ s in
      let e = source_back W x s (and_left (source_texts (header_kept W) x) _ k) (and_right (source_texts (header_kept W) x) _ k) fine in
      rw (append_assoc (field_lines W (bytes "SOURCE") x.text), begins W (bytes "SOURCE") x.text y)
      (source_first (after W (bytes "SOURCE") x.text y) s x (rw (begins W (bytes "SOURCE") x.text y) at e))

  reference_entry :
      (x : Reference) (s : List ℕ) → reference_fine x ≡ true → starts (but 32) s ≡ true → header_field (reference_lines W x ++ s) ≡ got (reference_of x) s
  unfolding reference_fine
  reference_entry x s k fine =
      let k₁ = and_right (reference_texts (header_kept W) x) _ k in
      let e =
      reference_back W x s (and_left (reference_texts (header_kept W) x) _ k) (and_left (reference_texts utf8 x) _ k₁)
      (and_right (reference_texts utf8 x) _ k₁) fine in
      rw (begins_reference W x s) (reference_first (after_reference W x s) s x (rw (begins_reference W x s) at e))

  source_begun : (x : Source) (s : List ℕ) → starts (but 32) (source_text x ++ s) ≡ true
  unfolding source_text
  source_begun x s = rw (append_assoc (field_lines W (bytes "SOURCE") x.text), begins W (bytes "SOURCE") x.text)

  reference_begun : (x : Reference) (s : List ℕ) → starts (but 32) (reference_lines W x ++ s) ≡ true
  reference_begun x s = rw (begins_reference W x s)

  entry_begun : (word : List ℕ) → ((x : List ℕ) → starts (but 32) (word ++ x) ≡ true) → (t s : List ℕ) → starts (but 32) (field_lines W word t ++ s) ≡ true
  entry_begun word f t s = field_test (starts (but 32)) W word t s f

-- ---- the whole header

abbrev pub may_list : {A : Type 0} → May A → List A
may_list absent = []
may_list (is a) = a ∷ []

-- the entries of a table's header, in the order in which they are written
unfoldable pub fields_of : Table → List Field
fields_of t =
    map (entry_of (bytes "DEFINITION")) (may_list t.definition) ++ (map (entry_of (bytes "ACCESSION")) (may_list t.accession) ++
    (map (entry_of (bytes "VERSION")) (may_list t.version) ++ (map (entry_of (bytes "DBLINK")) (may_list t.dblink) ++
    (map (entry_of (bytes "KEYWORDS")) (may_list t.keywords) ++ (map source_of (may_list t.source) ++
    (map reference_of t.references ++ (map (entry_of (bytes "COMMENT")) t.comments ++ [])))))))

may_each : (W : ℕ) (word : List ℕ) (o : May (List ℕ)) → maybe_lines W word o ≡ each (field_lines W word) (may_list o)
may_each W word absent = refl
may_each W word (is t) = rw append-nil

source_each : (W : ℕ) (o : May Source) → source_lines W o ≡ each (source_text W) (may_list o)
unfolding source_text
source_each W absent = refl
source_each W (is x) = rw append-nil

may_all : {A : Type 0} (p q r : A → Bool) → ((a : A) → p a ≡ true → q a ≡ true → r a ≡ true) → (o : May A) → if_is p o ≡ true → if_is q o ≡ true → all r (may_list o) ≡ true
may_all p q r f absent h k = refl
may_all p q r f (is a) h k = cc (f a h k)

list_all : {A : Type 0} (p q r : A → Bool) → ((a : A) → p a ≡ true → q a ≡ true → r a ≡ true) → (l : List A) → all p l ≡ true → all q l ≡ true → all r l ≡ true
list_all p q r f [] h k = refl
list_all p q r f (a ∷ l) h k = cc (f a (all_head p a l h) (all_head q a l k), list_all p q r f l (all_tail p a l h) (all_tail q a l k))

-- each header text of a table passes p
record Headers (p : List ℕ → Bool) (t : Table) : Type 0 where
  definition₂ : if_is p t.definition ≡ true
  accession₂ : if_is p t.accession ≡ true
  version₂ : if_is p t.version ≡ true
  dblink₂ : if_is p t.dblink ≡ true
  keywords₂ : if_is p t.keywords ≡ true
  source₂ : if_is (source_texts p) t.source ≡ true
  references₂ : all (reference_texts p) t.references ≡ true
  comments₂ : all p t.comments ≡ true

headers : (p : List ℕ → Bool) (t : Table) → header_texts p t ≡ true → Headers p t
unfolding header_texts
headers p t h =
    let h₁ = and_right (if_is p t.definition) _ h in
    let h₂ = and_right (if_is p t.accession) _ h₁ in
    let h₃ = and_right (if_is p t.version) _ h₂ in
    let h₄ = and_right (if_is p t.dblink) _ h₃ in
    let h₅ = and_right (if_is p t.keywords) _ h₄ in
    let h₆ = and_right (if_is (source_texts p) t.source) _ h₅ in
    record {
      definition₂ = and_left (if_is p t.definition) _ h;
      accession₂ = and_left (if_is p t.accession) _ h₁;
      version₂ = and_left (if_is p t.version) _ h₂;
      dblink₂ = and_left (if_is p t.dblink) _ h₃;
      keywords₂ = and_left (if_is p t.keywords) _ h₄;
      source₂ = and_left (if_is (source_texts p) t.source) _ h₅;
      references₂ = and_left (all (reference_texts p) t.references) _ h₆;
      comments₂ = and_right (all (reference_texts p) t.references) _ h₆;
    }

regroup₈ :
    (a b c d e f g h r : List ℕ) → (a ++ b ++ c ++ d ++ e ++ f ++ g ++ h) ++ r ≡ a ++ (b ++ (c ++ (d ++ (e ++ (f ++ (g ++ (h ++ r)))))))
regroup₈ a b c d e f g h r = simp append_assoc

lines_are :
    (W : ℕ) (t : Table) (rest : List ℕ) →
    header_lines W t ++ rest ≡
    each (field_lines W (bytes "DEFINITION")) (may_list t.definition) ++ (each (field_lines W (bytes "ACCESSION")) (may_list t.accession) ++
    (each (field_lines W (bytes "VERSION")) (may_list t.version) ++ (each (field_lines W (bytes "DBLINK")) (may_list t.dblink) ++
    (each (field_lines W (bytes "KEYWORDS")) (may_list t.keywords) ++ (each (source_text W) (may_list t.source) ++
    (each (reference_lines W) t.references ++ (each (field_lines W (bytes "COMMENT")) t.comments ++ rest)))))))
unfolding header_lines
lines_are W t rest =
    rw (
      ← may_each W (bytes "DEFINITION") t.definition,
      ← may_each W (bytes "ACCESSION") t.accession,
      ← may_each W (bytes "VERSION") t.version,
      ← may_each W (bytes "DBLINK") t.dblink,
      ← may_each W (bytes "KEYWORDS") t.keywords,
      ← source_each W t.source,
    )
    (regroup₈ (maybe_lines W (bytes "DEFINITION") t.definition) (maybe_lines W (bytes "ACCESSION") t.accession)
    (maybe_lines W (bytes "VERSION") t.version) (maybe_lines W (bytes "DBLINK") t.dblink) (maybe_lines W (bytes "KEYWORDS") t.keywords)
    (source_lines W t.source) (each (reference_lines W) t.references) (each (field_lines W (bytes "COMMENT")) t.comments) rest)

-- texts with a word, as a group of entries
module _ (W : ℕ) (word : List ℕ) (h : length word < 12) (f : First word) (b : (x : List ℕ) → starts (but 32) (word ++ x) ≡ true) where
  reads_texts :
      (xs : List (List ℕ)) (s : List ℕ) (fs : List Field) (rest : List ℕ) → all (text_fine W) xs ≡ true → Reads s fs rest →
      Reads (each (field_lines W word) xs ++ s) (map (entry_of word) xs ++ fs) rest
  reads_texts = reads_each (field_lines W word) (entry_of word) (text_fine W) (entry_back W word h f) (entry_begun W word b)

  reads_text :
      (o : May (List ℕ)) (s : List ℕ) (fs : List Field) (rest : List ℕ) → if_is (header_kept W) o ≡ true → if_is utf8 o ≡ true → Reads s fs rest →
      Reads (each (field_lines W word) (may_list o) ++ s) (map (entry_of word) (may_list o) ++ fs) rest
  unfolding text_fine
  reads_text o s fs rest k u r = reads_texts (may_list o) s fs rest (may_all (header_kept W) utf8 (text_fine W) (λ a p q. and_both _ _ p q) o k u) r

-- THE HEADER is read as the entries that it was written from
pub header_back :
    (W : ℕ) (t : Table) (rest : List ℕ) → header_texts (header_kept W) t ≡ true → header_texts utf8 t ≡ true → all pubmed_kept t.references ≡ true →
    starts (but 32) rest ≡ true → header_field rest ≡ no → while_fits header_field (header_lines W t ++ rest) ≡ got (fields_of t) rest
unfolding fields_of text_fine source_fine reference_fine
header_back W t rest k u one fine stop =
    let a : Headers (header_kept W) t = headers (header_kept W) t k in
    let b : Headers utf8 t = headers utf8 t u in
    let r₉ : Reads rest [] rest = record { first = fine; read = tries_no header_field rest stop } in
    let r₈ =
    reads_texts W (bytes "COMMENT") (lit< tt) comment (λ x. refl) t.comments rest [] rest
    (list_all (header_kept W) utf8 (text_fine W) (λ a p q. and_both _ _ p q) t.comments a.comments₂ b.comments₂) r₉ in
    let r₇ =
    reads_each (reference_lines W) reference_of (reference_fine W) (reference_entry W) (reference_begun W) t.references _ _ rest
    (list_all (reference_texts (header_kept W)) (λ x. reference_texts utf8 x && pubmed_kept x) (reference_fine W) (λ a p q. and_both _ _ p q)
    t.references a.references₂
    (list_all (reference_texts utf8) pubmed_kept (λ x. reference_texts utf8 x && pubmed_kept x) (λ a p q. and_both _ _ p q) t.references
    b.references₂ one)) r₈ in
    let r₆ =
    reads_each (source_text W) source_of (source_fine W) (source_entry W) (source_begun W) (may_list t.source) _ _ rest
    (may_all (source_texts (header_kept W)) (source_texts utf8) (source_fine W) (λ a p q. and_both _ _ p q) t.source a.source₂ b.source₂) r₇ in
    let r₅ = reads_text W (bytes "KEYWORDS") (lit< tt) keywords (λ x. refl) t.keywords _ _ rest a.keywords₂ b.keywords₂ r₆ in
    let r₄ = reads_text W (bytes "DBLINK") (lit< tt) dblink (λ x. refl) t.dblink _ _ rest a.dblink₂ b.dblink₂ r₅ in
    let r₃ = reads_text W (bytes "VERSION") (lit< tt) version (λ x. refl) t.version _ _ rest a.version₂ b.version₂ r₄ in
    let r₂ = reads_text W (bytes "ACCESSION") (lit< tt) accession (λ x. refl) t.accession _ _ rest a.accession₂ b.accession₂ r₃ in
    let r₁ = reads_text W (bytes "DEFINITION") (lit< tt) definition (λ x. refl) t.definition _ _ rest a.definition₂ b.definition₂ r₂ in
    rw (lines_are W t rest) r₁.read

-- ---- what the entries give

-- a later one goes before
abbrev later : {A : Type 0} → May A → May A → May A
later (is a) o = is a
later absent o = o

later_absent : {A : Type 0} (o : May A) → later o absent ≡ o
later_absent absent = refl
later_absent (is a) = refl

module _ {A : Type 0} (f : Field → May A) where
  latest_none : latest f [] ≡ absent
  unfolding latest
  latest_none = refl

  every_none : every f [] ≡ []
  unfolding every
  every_none = refl

  latest_next : (x : Field) (fs : List Field) → latest f (x ∷ fs) ≡ later (latest f fs) (f x)
  unfolding latest
  latest_next x fs = go (latest f fs) refl
    where
      go : (o : May A) → latest f fs ≡ o → latest f (x ∷ fs) ≡ later (latest f fs) (f x)
      go (is a) e = cc
      go absent e = cc

  -- a group of which f says nothing
  latest_skip : {B : Type 0} (g : B → Field) → ((b : B) → f (g b) ≡ absent) → (xs : List B) (fs : List Field) → latest f (map g xs ++ fs) ≡ latest f fs
  latest_skip g h [] fs = refl
  latest_skip g h (x ∷ xs) fs = latest_next (g x) (map g xs ++ fs) ∙ rw (h x, latest_skip g h xs fs) (later_absent (latest f fs))

  every_skip : {B : Type 0} (g : B → Field) → ((b : B) → f (g b) ≡ absent) → (xs : List B) (fs : List Field) → every f (map g xs ++ fs) ≡ every f fs
  unfolding every
  every_skip g h [] fs = refl
  every_skip g h (x ∷ xs) fs = cc (h x, every_skip g h xs fs)

  -- a group of which f gives each
  latest_one : (g : A → Field) → ((a : A) → f (g a) ≡ is a) → (o : May A) (fs : List Field) → latest f (map g (may_list o) ++ fs) ≡ later (latest f fs) o
  latest_one g h absent fs = rw (later_absent (latest f fs))
  latest_one g h (is a) fs = rw (latest_next (g a) fs, h a)

  every_one : (g : A → Field) → ((a : A) → f (g a) ≡ is a) → (xs : List A) (fs : List Field) → every f (map g xs ++ fs) ≡ xs ++ every f fs
  unfolding every
  every_one g h [] fs = refl
  every_one g h (x ∷ xs) fs = cc (h x, every_one g h xs fs)

-- what is asked for, v, hears of a group with the word w: all of it, or nothing
heard : {A : Type 0} → List ℕ → List ℕ → A → A → A
heard v w a none = pick (same w v) a none

module _ (v w : List ℕ) where
  latest_heard : (o : May (List ℕ)) (fs : List Field) → latest (text_in v) (map (entry_of w) (may_list o) ++ fs) ≡ later (latest (text_in v) fs) (heard v w o absent)
  unfolding heard
  latest_heard o fs = go (same w v) refl
    where
      go : (x : Bool) → same w v ≡ x → latest (text_in v) (map (entry_of w) (may_list o) ++ fs) ≡ later (latest (text_in v) fs) (pick (same w v) o absent)
      go true e = rw e (latest_one (text_in v) (entry_of w) (λ t. cc) o fs)
      go false e = rw (e, later_absent (latest (text_in v) fs)) (latest_skip (text_in v) (entry_of w) (λ t. cc) (may_list o) fs)

  every_heard : (xs : List (List ℕ)) (fs : List Field) → every (text_in v) (map (entry_of w) xs ++ fs) ≡ heard v w xs [] ++ every (text_in v) fs
  unfolding heard
  every_heard xs fs = go (same w v) refl
    where
      go : (x : Bool) → same w v ≡ x → every (text_in v) (map (entry_of w) xs ++ fs) ≡ pick (same w v) xs [] ++ every (text_in v) fs
      go true e = rw e (every_one (text_in v) (entry_of w) (λ t. cc) xs fs)
      go false e = rw e (every_skip (text_in v) (entry_of w) (λ t. cc) xs fs)

module _ (v : List ℕ) (t : Table) where
  latest_texts :
      same (bytes "COMMENT") v ≡ false →
      latest (text_in v) (fields_of t) ≡
      later
      (later
      (later (later (heard v (bytes "KEYWORDS") t.keywords absent) (heard v (bytes "DBLINK") t.dblink absent))
      (heard v (bytes "VERSION") t.version absent))
      (heard v (bytes "ACCESSION") t.accession absent))
      (heard v (bytes "DEFINITION") t.definition absent)
  unfolding fields_of
  latest_texts h =
      rw (
        latest_heard v (bytes "DEFINITION") t.definition,
        latest_heard v (bytes "ACCESSION") t.accession,
        latest_heard v (bytes "VERSION") t.version,
        latest_heard v (bytes "DBLINK") t.dblink,
        latest_heard v (bytes "KEYWORDS") t.keywords,
        latest_skip (text_in v) source_of (λ x. refl) (may_list t.source),
        latest_skip (text_in v) reference_of (λ x. refl) t.references,
        latest_skip (text_in v) (entry_of (bytes "COMMENT")) (λ x. rw h) t.comments [],
        latest_none (text_in v),
      )

  every_texts :
      every (text_in v) (fields_of t) ≡
      heard v (bytes "DEFINITION") (may_list t.definition) [] ++ (heard v (bytes "ACCESSION") (may_list t.accession) [] ++
      (heard v (bytes "VERSION") (may_list t.version) [] ++ (heard v (bytes "DBLINK") (may_list t.dblink) [] ++
      (heard v (bytes "KEYWORDS") (may_list t.keywords) [] ++ (heard v (bytes "COMMENT") t.comments [] ++ [])))))
  unfolding fields_of
  every_texts =
      rw (
        every_heard v (bytes "DEFINITION") (may_list t.definition),
        every_heard v (bytes "ACCESSION") (may_list t.accession),
        every_heard v (bytes "VERSION") (may_list t.version),
        every_heard v (bytes "DBLINK") (may_list t.dblink),
        every_heard v (bytes "KEYWORDS") (may_list t.keywords),
        every_skip (text_in v) source_of (λ x. refl) (may_list t.source),
        every_skip (text_in v) reference_of (λ x. refl) t.references,
        every_heard v (bytes "COMMENT") t.comments [],
        every_none (text_in v),
      )

pub definition_is : (t : Table) → latest (text_in (bytes "DEFINITION")) (fields_of t) ≡ t.definition
unfolding heard
definition_is t = latest_texts (bytes "DEFINITION") t refl

pub accession_is : (t : Table) → latest (text_in (bytes "ACCESSION")) (fields_of t) ≡ t.accession
unfolding heard
accession_is t = latest_texts (bytes "ACCESSION") t refl ∙ simp later_absent

pub version_is : (t : Table) → latest (text_in (bytes "VERSION")) (fields_of t) ≡ t.version
unfolding heard
version_is t = latest_texts (bytes "VERSION") t refl ∙ simp later_absent

pub dblink_is : (t : Table) → latest (text_in (bytes "DBLINK")) (fields_of t) ≡ t.dblink
unfolding heard
dblink_is t = latest_texts (bytes "DBLINK") t refl ∙ simp later_absent

pub keywords_is : (t : Table) → latest (text_in (bytes "KEYWORDS")) (fields_of t) ≡ t.keywords
unfolding heard
keywords_is t = latest_texts (bytes "KEYWORDS") t refl ∙ simp later_absent

pub source_is : (t : Table) → latest source_in (fields_of t) ≡ t.source
unfolding fields_of
source_is t =
    rw (
      latest_skip source_in (entry_of (bytes "DEFINITION")) (λ x. refl) (may_list t.definition),
      latest_skip source_in (entry_of (bytes "ACCESSION")) (λ x. refl) (may_list t.accession),
      latest_skip source_in (entry_of (bytes "VERSION")) (λ x. refl) (may_list t.version),
      latest_skip source_in (entry_of (bytes "DBLINK")) (λ x. refl) (may_list t.dblink),
      latest_skip source_in (entry_of (bytes "KEYWORDS")) (λ x. refl) (may_list t.keywords),
      latest_one source_in source_of (λ x. refl) t.source,
      latest_skip source_in reference_of (λ x. refl) t.references,
      latest_skip source_in (entry_of (bytes "COMMENT")) (λ x. refl) t.comments [],
      latest_none source_in,
    )

pub references_are : (t : Table) → every reference_in (fields_of t) ≡ t.references
unfolding fields_of
references_are t =
    rw (
      every_skip reference_in (entry_of (bytes "DEFINITION")) (λ x. refl) (may_list t.definition),
      every_skip reference_in (entry_of (bytes "ACCESSION")) (λ x. refl) (may_list t.accession),
      every_skip reference_in (entry_of (bytes "VERSION")) (λ x. refl) (may_list t.version),
      every_skip reference_in (entry_of (bytes "DBLINK")) (λ x. refl) (may_list t.dblink),
      every_skip reference_in (entry_of (bytes "KEYWORDS")) (λ x. refl) (may_list t.keywords),
      every_skip reference_in source_of (λ x. refl) (may_list t.source),
      every_one reference_in reference_of (λ x. refl) t.references,
      every_skip reference_in (entry_of (bytes "COMMENT")) (λ x. refl) t.comments [],
      every_none reference_in,
      append-nil,
    )

pub comments_are : (t : Table) → every (text_in (bytes "COMMENT")) (fields_of t) ≡ t.comments
unfolding heard
comments_are t = every_texts (bytes "COMMENT") t ∙ append-nil t.comments

pub definitions_are : (t : Table) → every (text_in (bytes "DEFINITION")) (fields_of t) ≡ may_list t.definition
unfolding heard
definitions_are t = every_texts (bytes "DEFINITION") t ∙ append-nil (may_list t.definition)
