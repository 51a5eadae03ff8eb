-- The last line of every written record is `//`.
use Rattle.std.specs.Prelude.{ℕ, zero, suc, ◌+◌, ◌-◌, Bool, true, false, ◌≡◌, refl, List, [], ◌∷◌, ◌++◌, length, take, drop, ltb, leb}
use Rattle.std.proofs.Common.{sym, append_assoc, append-nil}
use Rattle.spec_format.specs.Bytes.{May, absent, is, bytes, spaces, each, pick}
use Rattle.spec_format.specs.Table.{Source, Reference, Qualifier, Feature, Contig, Table}
use Rattle.spec_format.specs.Wrap.{Line, line_text, line_rest, fill, closing, lines_after, wrapped, wrap_text, break_at, comma_lines, wrap_location}
use Rattle.spec_format.specs.Write.{padded, field_lines, maybe_lines, source_lines, reference_lines, header_lines, comma_key, key_text, quotes, value_lines, qualifier_text, qualifier_lines, feature_lines, features_lines, contig_lines, line_start, ten_start, letter_lines, origin_lines, locus_text, written}
use Rattle.spec_columns.specs.LocusLine.{line_of, locus_line_lem}

-- a text that ends with LF
record Ends (x : List ℕ) : Type 0 where
  before : List ℕ
  is : x ≡ before ++ 10 ∷ []

ends_here : (x : List ℕ) → Ends (x ++ 10 ∷ [])
ends_here x = record { before = x; is = refl }

ends_after : (a b : List ℕ) → Ends b → Ends (a ++ b)
ends_after a b e = record { before = a ++ e.before; is = rw e.is (sym (append_assoc a e.before (10 ∷ []))) }

-- ---- wrapped texts

closing_ends : (q : Bool) (W indent used : ℕ) → Ends (closing q W indent used)
unfolding closing
closing_ends false W indent used = ends_here []
closing_ends true W indent used = go (ltb used W) refl
  where
    go : (x : Bool) → ltb used W ≡ x → Ends (closing true W indent used)
    go true p = rw (closing, p) (ends_here (34 ∷ []))
    go false p = rw (closing, p) (ends_after (10 ∷ [] ++ spaces indent) (34 ∷ 10 ∷ []) (ends_here (34 ∷ [])))

after_ends : (n : ℕ) (q : Bool) (W indent used : ℕ) (t : List ℕ) → Ends (lines_after n q W indent used t)
unfolding lines_after
after_ends zero q W indent used t = closing_ends q W indent used
after_ends (suc n) q W indent used [] = closing_ends q W indent used
after_ends (suc n) q W indent used (b ∷ t) =
    let x : Line = fill q W indent (b ∷ t) in
    ends_after (10 ∷ [] ++ spaces indent ++ line_text x) (lines_after n q W indent (indent + length (line_text x)) (line_rest x))
    (after_ends n q W indent (indent + length (line_text x)) (line_rest x))

wrapped_ends : (q : Bool) (W indent used : ℕ) (t : List ℕ) → Ends (wrapped q W indent used t)
unfolding wrapped
wrapped_ends q W indent used t =
    let x : Line = fill q W used t in
    ends_after (line_text x) (lines_after (length t) q W indent (used + length (line_text x)) (line_rest x))
    (after_ends (length t) q W indent (used + length (line_text x)) (line_rest x))

text_ends : (W : ℕ) (start : List ℕ) (indent : ℕ) (q : Bool) (t : List ℕ) → Ends (wrap_text W start indent q t)
unfolding wrap_text
text_ends W start indent false t = ends_after start (wrapped false W indent (length start) t) (wrapped_ends false W indent (length start) t)
text_ends W start indent true t =
    ends_after (start ++ 34 ∷ []) (wrapped true W indent (suc (length start)) t) (wrapped_ends true W indent (suc (length start)) t)

comma_ends : (n W indent used : ℕ) (t : List ℕ) → Ends (comma_lines n W indent used t)
unfolding comma_lines
comma_ends zero W indent used t = ends_here t
comma_ends (suc n) W indent used t = go (λ s. comma_ends n W indent indent s) (leb (used + length t) W) refl
  where
    go : ((s : List ℕ) → Ends (comma_lines n W indent indent s)) → (x : Bool) → leb (used + length t) W ≡ x → Ends (comma_lines (suc n) W indent used t)
    go ih true p = rw (comma_lines, p) (ends_here t)
    go ih false p =
        rw (comma_lines, p)
        (ends_after (take (break_at (W - used) t) t ++ 10 ∷ [] ++ spaces indent) (comma_lines n W indent indent (drop (break_at (W - used) t) t))
        (ih (drop (break_at (W - used) t) t)))

location_ends : (W : ℕ) (start : List ℕ) (indent : ℕ) (t : List ℕ) → Ends (wrap_location W start indent t)
unfolding wrap_location
location_ends W start indent t = ends_after start _ (comma_ends (length t) W indent (length start) t)

-- ---- a section of the record: nothing, or a text that ends with LF

data Section (x : List ℕ) : Type 0 where
  none : x ≡ [] → Section x
  some : Ends x → Section x

-- what ends with LF still does so with a section after it
then : (a b : List ℕ) → Ends a → Section b → Ends (a ++ b)
then a b e (none p) = rw (p, append-nil a) e
then a b e (some f) = ends_after a b f

sections : (a b : List ℕ) → Section a → Section b → Section (a ++ b)
sections a b (none p) q = rw p q
sections a b (some e) q = some (then a b e q)

each_section : {A : Type 0} (f : A → List ℕ) → ((x : A) → Section (f x)) → (xs : List A) → Section (each f xs)
each_section f k [] = none refl
each_section f k (x ∷ xs) = sections (f x) (each f xs) (k x) (each_section f k xs)

field_section : (W : ℕ) (w t : List ℕ) → Section (field_lines W w t)
unfolding field_lines
field_section W w t = some (text_ends W (padded 12 w) 12 false t)

maybe_section : (W : ℕ) (w : List ℕ) (t : May (List ℕ)) → Section (maybe_lines W w t)
maybe_section W w absent = none refl
maybe_section W w (is t) = field_section W w t

source_section : (W : ℕ) (s : May Source) → Section (source_lines W s)
source_section W absent = none refl
source_section W (is s) = sections _ _ (field_section W (bytes "SOURCE") s.text) (maybe_section W (bytes "  ORGANISM") s.organism)

reference_section : (W : ℕ) (r : Reference) → Section (reference_lines W r)
unfolding reference_lines
reference_section W r =
    sections _ _ (sections _ _ (sections _ _ (sections _ _ (sections _ _ (sections _ _
    (field_section W (bytes "REFERENCE") r.text) (maybe_section W (bytes "  AUTHORS") r.authors)) (maybe_section W (bytes "  CONSRTM") r.consrtm))
    (field_section W (bytes "  TITLE") r.title)) (maybe_section W (bytes "  JOURNAL") r.journal)) (maybe_section W (bytes "   PUBMED") r.pubmed))
    (maybe_section W (bytes "  REMARK") r.remark)

header_section : (W : ℕ) (t : Table) → Section (header_lines W t)
unfolding header_lines
header_section W t =
    sections _ _ (sections _ _ (sections _ _ (sections _ _ (sections _ _ (sections _ _ (sections _ _
    (maybe_section W (bytes "DEFINITION") t.definition) (maybe_section W (bytes "ACCESSION") t.accession)) (maybe_section W (bytes "VERSION") t.version))
    (maybe_section W (bytes "DBLINK") t.dblink)) (maybe_section W (bytes "KEYWORDS") t.keywords)) (source_section W t.source))
    (each_section (reference_lines W) (reference_section W) t.references)) (each_section (field_lines W (bytes "COMMENT")) (field_section W (bytes "COMMENT")) t.comments)

value_section : (W : ℕ) (k v : List ℕ) → Section (value_lines W k v)
unfolding value_lines
value_section W k v = go (comma_key k)
  where
    go : (c : Bool) → Section (pick c (wrap_location W (key_text k ++ bytes "=") 21 v) (wrap_text W (key_text k ++ bytes "=") 21 (quotes k) v))
    go true = some (location_ends W (key_text k ++ bytes "=") 21 v)
    go false = some (text_ends W (key_text k ++ bytes "=") 21 (quotes k) v)

text_section : (W : ℕ) (k : List ℕ) (v : May (List ℕ)) → Section (qualifier_text W k v)
text_section W k absent = some (ends_here (key_text k))
text_section W k (is v) = value_section W k v

qualifier_section : (W : ℕ) (q : Qualifier) → Section (qualifier_lines W q)
unfolding qualifier_lines
qualifier_section W q = text_section W q.key q.value

feature_section : (W : ℕ) (f : Feature) → Section (feature_lines W f)
unfolding feature_lines
feature_section W f = sections _ _ (some (location_ends W _ 21 f.location)) (each_section (qualifier_lines W) (qualifier_section W) f.qualifiers)

features_section : (W : ℕ) (fs : List Feature) → Section (features_lines W fs)
unfolding features_lines
features_section W [] = none refl
features_section W (f ∷ fs) =
    sections _ _ (some (ends_here (bytes "FEATURES             Location/Qualifiers"))) (each_section (feature_lines W) (feature_section W) (f ∷ fs))

contig_section : (W : ℕ) (c : May Contig) → Section (contig_lines W c)
contig_section W absent = none refl
contig_section W (is c) = some (location_ends W (bytes "CONTIG      ") 12 c.text)

letters_end_lem : (i : ℕ) (l : List ℕ) → Ends (letter_lines i l)
unfolding letter_lines
letters_end_lem i [] = ends_here []
letters_end_lem i (b ∷ t) = ends_after (line_start i ++ ten_start i ++ b ∷ []) (letter_lines (suc i) t) (letters_end_lem (suc i) t)

origin_section : (l : List ℕ) → Section (origin_lines l)
unfolding origin_lines
origin_section [] = none refl
origin_section (b ∷ t) = some (ends_after (bytes "ORIGIN      ") (letter_lines 0 (b ∷ t)) (letters_end_lem 0 (b ∷ t)))

locus_ends : (truncate escape : Bool) (t : Table) → Ends (locus_text truncate escape t)
locus_ends truncate escape t = record { before = line_of (locus_text truncate escape t); is = locus_line_lem truncate escape t }

-- `//` stands alone on the last line
pub slashes_last : (W : ℕ) (truncate escape : Bool) (t : Table) → (before : List ℕ) × (written W truncate escape t ≡ before ++ bytes "\n//\n")
unfolding written
slashes_last W truncate escape t =
    let e = then _ _ (then _ _ (then _ _ (then _ _ (locus_ends truncate escape t) (header_section W t)) (features_section W t.features)) (contig_section W t.contig))
    (origin_section t.letters) in
    (e.before, rw e.is (append_assoc e.before (bytes "\n") (bytes "//\n")))
