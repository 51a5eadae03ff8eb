-- THE ROUND TRIP: what the keeping writer writes of a table, the reader reads back as that table.
use Rattle.std.specs.Prelude.{ℕ, ◌<◌, ◌≤◌, Bool, true, false, ◌&&◌, ◌≡◌, refl, List, [], ◌∷◌, ◌++◌, length, leb}
use Rattle.std.proofs.Common.{arith, ap, ◌∙◌, append_assoc, leb-true}
use Rattle.spec_format.specs.Bytes.{May, absent, is, bytes, spaces, starts, all, but, letter}
use Rattle.spec_format.specs.Utf8.{utf8}
use Rattle.spec_format.specs.Readers.{got, no, optional, tag, line_end, while_fits}
use Rattle.spec_format.specs.Table.{Feature, Contig, Table}
use Rattle.spec_format.specs.Locus.{preamble, locus}
use Rattle.spec_format.specs.Header.{field_bytes, field, reference, source, ignored_line, header_field, every, text_in}
use Rattle.spec_format.specs.Features.{features_header}
use Rattle.spec_format.specs.Deep.{deep_contig}
use Rattle.spec_format.specs.Origin.{origin_tag}
use Rattle.spec_format.specs.Record.{Outcome, was_read, features, base_count, contig, slashes_at, promised, with_letters, after_origin, list_of, middle, deep_in, table_from, read_record}
use Rattle.spec_format.specs.Write.{locus_text, header_lines, features_lines, contig_lines, origin_lines, written}
use Rattle.spec_format.specs.Wrap.{wrap_location}
use Rattle.spec_format.specs.WellFormed.{width_fine, if_is, header_texts, feature_fine, contig_fine, letters_fine, locus_fine, well_formed}
use Rattle.spec_format.specs.Rooms.{feature_read, contig_read, locations_read}
use Rattle.spec_format.specs.Keeping.{switches_kept, locus_kept, header_kept, pubmed_kept, feature_kept, keeps}
use Rattle.spec_loops.proofs.Loops.{tries_more}
use Rattle.spec_loops.proofs.Shrinks.{line_end_small}
use Rattle.spec_rooms.specs.LocationRows.{rows_are}
use Rattle.spec_location.specs.Shallow.{shallow_start, shallow_none, shallow_contig, shallow_middle}
use Rattle.spec_texts_back.specs.Tests.{and_left, and_right}
use Rattle.spec_record_back.specs.LocusBack.{preamble_back, length_fits, locus_back}
use Rattle.spec_record_back.specs.OriginBack.{origin_back, numbered_back}
use Rattle.spec_texts_back.specs.FieldBack.{contig_back}
use Rattle.spec_record_back.specs.ReferenceBack.{refused, is_no}
use Rattle.spec_record_back.specs.HeaderBack.{fields_of, header_back, definition_is, accession_is, version_is, dblink_is}
use Rattle.spec_record_back.specs.HeaderBack.{keywords_is, source_is, references_are, comments_are, definitions_are, may_list}
use Rattle.spec_record_back.proofs.FeatureBack.{table_back}
use Rattle.spec_format.specs.Impossible.{impossible}
use Rattle.spec_record_back.specs.RecordBack.{line_ends, end_taken}

-- ---- what can follow a section: a test that the words pass which can stand there

record Slashes (q : List ℕ → Bool) : Type 0 where
  slashes : (y : List ℕ) → q (bytes "//" ++ y) ≡ true
  origin : (y : List ℕ) → q (bytes "ORIGIN" ++ y) ≡ true

origin_test : (q : List ℕ → Bool) → Slashes q → (l s : List ℕ) → q (origin_lines l ++ (bytes "//\n" ++ s)) ≡ true
unfolding origin_lines
origin_test q h [] s = h.slashes (10 ∷ s)
origin_test q h (b ∷ l) s = h.origin _

contig_test :
    (q : List ℕ → Bool) → Slashes q → ((y : List ℕ) → q (bytes "CONTIG" ++ y) ≡ true) → (W : ℕ) (c : May Contig) (l s : List ℕ) →
    q (contig_lines W c ++ (origin_lines l ++ (bytes "//\n" ++ s))) ≡ true
unfolding wrap_location
contig_test q h f W absent l s = origin_test q h l s
contig_test q h f W (is c) l s = f _

features_test :
    (q : List ℕ → Bool) → Slashes q → ((y : List ℕ) → q (bytes "CONTIG" ++ y) ≡ true) → ((y : List ℕ) → q (bytes "FEATURES" ++ y) ≡ true) →
    (W : ℕ) (fs : List Feature) (c : May Contig) (l s : List ℕ) →
    q (features_lines W fs ++ (contig_lines W c ++ (origin_lines l ++ (bytes "//\n" ++ s)))) ≡ true
unfolding features_lines
features_test q h f g W [] c l s = contig_test q h f W c l s
features_test q h f g W (x ∷ fs) c l s = g _

no_header :
    (W : ℕ) (fs : List Feature) (c : May Contig) (l s : List ℕ) →
    header_field (features_lines W fs ++ (contig_lines W c ++ (origin_lines l ++ (bytes "//\n" ++ s)))) ≡ no
unfolding header_field source reference ignored_line field field_bytes tag
no_header W fs c l s =
    is_no _
    (features_test (λ s. refused (header_field s)) (record { slashes = λ y. refl; origin = λ y. refl }) (λ y. refl) (λ y. refl) W fs c l s)

features_start :
    (W : ℕ) (fs : List Feature) (c : May Contig) (l s : List ℕ) →
    starts (but 32) (features_lines W fs ++ (contig_lines W c ++ (origin_lines l ++ (bytes "//\n" ++ s)))) ≡ true
features_start W fs c l s =
    features_test (starts (but 32)) (record { slashes = λ y. refl; origin = λ y. refl }) (λ y. refl) (λ y. refl) W fs c l s

no_features : (W : ℕ) (c : May Contig) (l s : List ℕ) → features (contig_lines W c ++ (origin_lines l ++ (bytes "//\n" ++ s))) ≡ no
unfolding features features_header tag
no_features W c l s = is_no _ (contig_test (λ s. refused (features s)) (record { slashes = λ y. refl; origin = λ y. refl }) (λ y. refl) W c l s)

contig_start : (W : ℕ) (c : May Contig) (l s : List ℕ) → starts (but 32) (contig_lines W c ++ (origin_lines l ++ (bytes "//\n" ++ s))) ≡ true
contig_start W c l s = contig_test (starts (but 32)) (record { slashes = λ y. refl; origin = λ y. refl }) (λ y. refl) W c l s

no_count : (W : ℕ) (c : May Contig) (l s : List ℕ) → base_count (contig_lines W c ++ (origin_lines l ++ (bytes "//\n" ++ s))) ≡ no
unfolding field field_bytes tag
no_count W c l s = is_no _ (contig_test (λ s. refused (base_count s)) (record { slashes = λ y. refl; origin = λ y. refl }) (λ y. refl) W c l s)

no_contig : (l s : List ℕ) → contig (origin_lines l ++ (bytes "//\n" ++ s)) ≡ no
unfolding field_bytes tag
no_contig l s = is_no _ (origin_test (λ s. refused (contig s)) (record { slashes = λ y. refl; origin = λ y. refl }) l s)

no_word : (l s : List ℕ) → tag (bytes "CONTIG") (origin_lines l ++ (bytes "//\n" ++ s)) ≡ no
unfolding tag
no_word l s = is_no _ (origin_test (λ s. refused (tag (bytes "CONTIG") s)) (record { slashes = λ y. refl; origin = λ y. refl }) l s)

origin_start : (l s : List ℕ) → starts (but 32) (origin_lines l ++ (bytes "//\n" ++ s)) ≡ true
origin_start l s = origin_test (starts (but 32)) (record { slashes = λ y. refl; origin = λ y. refl }) l s

no_further : (l s : List ℕ) → tag (spaces 12) (origin_lines l ++ (bytes "//\n" ++ s)) ≡ no
unfolding tag
no_further l s = is_no _ (origin_test (λ s. refused (tag (spaces 12) s)) (record { slashes = λ y. refl; origin = λ y. refl }) l s)

-- ---- FEATURES and CONTIG

features_none :
    (W : ℕ) (c : May Contig) (l s : List ℕ) →
    optional (features_lines W [] ++ (contig_lines W c ++ (origin_lines l ++ (bytes "//\n" ++ s))))
    (features (features_lines W [] ++ (contig_lines W c ++ (origin_lines l ++ (bytes "//\n" ++ s))))) ≡
    got absent (contig_lines W c ++ (origin_lines l ++ (bytes "//\n" ++ s)))
unfolding features_lines
features_none W c l s = rw (no_features W c l s)

-- no feature, no section
abbrev may_features : List Feature → May (List Feature)
may_features [] = absent
may_features (f ∷ fs) = is (f ∷ fs)

list_of_lem : (fs : List Feature) → list_of (may_features fs) ≡ fs
list_of_lem [] = refl
list_of_lem (f ∷ fs) = refl

features_section :
    (W : ℕ) (fs : List Feature) (c : May Contig) (l s : List ℕ) → 21 < W → all (feature_fine W) fs ≡ true → all (feature_kept W) fs ≡ true →
    all feature_read fs ≡ true →
    optional (features_lines W fs ++ (contig_lines W c ++ (origin_lines l ++ (bytes "//\n" ++ s))))
    (features (features_lines W fs ++ (contig_lines W c ++ (origin_lines l ++ (bytes "//\n" ++ s))))) ≡
    got (may_features fs) (contig_lines W c ++ (origin_lines l ++ (bytes "//\n" ++ s)))
features_section W [] c l s w h k rows = features_none W c l s
features_section W (f ∷ fs) c l s w h k rows =
    rw (table_back W f fs (contig_lines W c ++ (origin_lines l ++ (bytes "//\n" ++ s))) w (contig_start W c l s) h k rows)

contig_there :
    (W : ℕ) (c : Contig) (l s : List ℕ) → contig_fine c ≡ true → contig_read (is c) ≡ true →
    contig (contig_lines W (is c) ++ (origin_lines l ++ (bytes "//\n" ++ s))) ≡ got c (origin_lines l ++ (bytes "//\n" ++ s))
contig_there W c l s h e = contig_back W (origin_lines l ++ (bytes "//\n" ++ s)) (no_further l s) c h (rows_are true c.text c.rows e h)

contig_section :
    (W : ℕ) (c : May Contig) (l s : List ℕ) → if_is contig_fine c ≡ true → contig_read c ≡ true →
    optional (contig_lines W c ++ (origin_lines l ++ (bytes "//\n" ++ s))) (contig (contig_lines W c ++ (origin_lines l ++ (bytes "//\n" ++ s)))) ≡
    got c (origin_lines l ++ (bytes "//\n" ++ s))
contig_section W absent l s h e = rw (no_contig l s)
contig_section W (is c) l s h e = rw (contig_there W c l s h e)

middle_steps :
    (fs : List Feature) (c : May Contig) (s s₁ s₂ : List ℕ) → optional s (features s) ≡ got (may_features fs) s₁ → base_count s₁ ≡ no →
    optional s₁ (contig s₁) ≡ got c s₂ → middle s ≡ got (record { features = fs; contig = c }) s₂
unfolding middle
middle_steps fs c s s₁ s₂ e₁ e₂ e₃ = rw (e₁, e₂, e₃, list_of_lem fs)

-- ---- number 14 is not due

contig_shallow :
    (W : ℕ) (c : May Contig) (l s : List ℕ) → if_is contig_fine c ≡ true → contig_read c ≡ true →
    deep_contig (contig_lines W c ++ (origin_lines l ++ (bytes "//\n" ++ s))) ≡ false
contig_shallow W absent l s h e = shallow_none (origin_lines l ++ (bytes "//\n" ++ s)) (no_word l s)
contig_shallow W (is c) l s h e =
    shallow_contig (contig_lines W (is c) ++ (origin_lines l ++ (bytes "//\n" ++ s))) c (origin_lines l ++ (bytes "//\n" ++ s)) (contig_there W c l s h e) (origin_start l s)

-- ---- from ORIGIN to the record's end

one_end : (rest : List ℕ) → line_end (10 ∷ rest) ≡ got [] rest
unfolding line_end
one_end rest = refl

slashes_back : (t : Table) (rest : List ℕ) → line_ends rest ≡ false → slashes_at t (bytes "//\n" ++ rest) ≡ was_read t rest
unfolding tag
slashes_back t rest h = rw (tries_more line_end line_end_small (10 ∷ rest) [] rest (one_end rest), end_taken rest h)

no_origin : (s : List ℕ) → origin_tag (bytes "//\n" ++ s) ≡ no
unfolding origin_tag tag
no_origin s = refl

no_letters : (s : List ℕ) → origin_lines [] ++ s ≡ s
unfolding origin_lines
no_letters s = refl

fine_letters : (o : May ℕ) (b : ℕ) (l : List ℕ) → letters_fine o (b ∷ l) ≡ true → (all letter (b ∷ l) && promised o (length (b ∷ l))) ≡ true
unfolding letters_fine
fine_letters o b l h = h

-- t is the table without its letters
origin_section :
    (t : Table) (l s : List ℕ) → with_letters t [] ≡ t → letters_fine t.locus.length l ≡ true →
    after_origin t (origin_lines l ++ (bytes "//\n" ++ s)) (origin_tag (origin_lines l ++ (bytes "//\n" ++ s))) ≡ slashes_at (with_letters t l) (bytes "//\n" ++ s)
origin_section t [] s e h = rw (no_letters (bytes "//\n" ++ s), no_origin s, e)
origin_section t (b ∷ l) s e h =
    let k = fine_letters t.locus.length b l h in
    rw (origin_back b l (bytes "//\n" ++ s), numbered_back b l (47 ∷ 10 ∷ s) (and_left (all letter (b ∷ l)) _ k), and_right (all letter (b ∷ l)) _ k)

-- ---- the table again

bare : Table → Table
bare t = table_from t.locus (fields_of t) (record { features = t.features; contig = t.contig })

bare_none : (t : Table) → with_letters (bare t) [] ≡ bare t
unfolding bare table_from
bare_none t = refl

bare_locus : (t : Table) → (bare t).locus ≡ t.locus
unfolding bare table_from
bare_locus t = refl

bare_whole : (t : Table) → with_letters (bare t) t.letters ≡ t
unfolding bare table_from
bare_whole t = rw (definition_is t, accession_is t, version_is t, dblink_is t, keywords_is t, source_is t, references_are t, comments_are t)

one_definition : (t : Table) → leb (length (every (text_in (bytes "DEFINITION")) (fields_of t))) 1 ≡ true
one_definition t = rw (definitions_are t) (go t.definition)
  where
    go : (o : May (List ℕ)) → leb (length (may_list o)) 1 ≡ true
    go absent = refl
    go (is d) = refl

-- ---- the record

preamble_none : (t : Table) (s : List ℕ) → preamble (locus_text false false t ++ s) ≡ got tt (locus_text false false t ++ s)
unfolding locus_text
preamble_none t s = preamble_back _

record_steps :
    (t : Table) (s s₁ s₂ s₃ : List ℕ) (o : Outcome) → preamble s ≡ got tt s → locus s ≡ got t.locus s₁ → while_fits header_field s₁ ≡ got (fields_of t) s₂ →
    deep_in s₂ ≡ false → middle s₂ ≡ got (record { features = t.features; contig = t.contig }) s₃ → after_origin (bare t) s₃ (origin_tag s₃) ≡ o →
    read_record s ≡ o
unfolding read_record bare
record_steps t s s₁ s₂ s₃ o e₁ e₂ e₃ n e₄ e₅ = rw (e₁, e₂, e₃, one_definition t, n, e₄) e₅

regroup₆ : (a b c d e f r : List ℕ) → (a ++ b ++ c ++ d ++ e ++ f) ++ r ≡ a ++ (b ++ (c ++ (d ++ (e ++ (f ++ r)))))
regroup₆ a b c d e f r = simp append_assoc

-- what the rules say, one by one
record Rules (W : ℕ) (t : Table) : Type 0 where
  locus_fine' : locus_fine false false t ≡ true
  locus_kept' : locus_kept t.locus ≡ true
  header_utf8 : header_texts utf8 t ≡ true
  header_kept' : header_texts (header_kept W) t ≡ true
  pubmed : all pubmed_kept t.references ≡ true
  features_fine : all (feature_fine W) t.features ≡ true
  features_kept : all (feature_kept W) t.features ≡ true
  contig_fine' : if_is contig_fine t.contig ≡ true
  letters_fine' : letters_fine t.locus.length t.letters ≡ true
  features_read : all feature_read t.features ≡ true
  contig_read' : contig_read t.contig ≡ true

rules : (W : ℕ) (t : Table) → well_formed W false false t ≡ true → keeps W false false t ≡ true → locations_read t ≡ true → Rules W t
unfolding well_formed keeps locations_read
rules W t f k p =
    let f₁ = and_right (locus_fine false false t) _ f in
    let f₂ = and_right (header_texts utf8 t) _ f₁ in
    let f₃ = and_right (all (feature_fine W) t.features) _ f₂ in
    let k₁ = and_right (switches_kept false false) _ k in
    let k₂ = and_right (locus_kept t.locus) _ k₁ in
    let k₃ = and_right (header_texts (header_kept W) t) _ k₂ in
    record {
      locus_fine' = and_left (locus_fine false false t) _ f;
      locus_kept' = and_left (locus_kept t.locus) _ k₁;
      header_utf8 = and_left (header_texts utf8 t) _ f₁;
      header_kept' = and_left (header_texts (header_kept W) t) _ k₂;
      pubmed = and_left (all pubmed_kept t.references) _ k₃;
      features_fine = and_left (all (feature_fine W) t.features) _ f₂;
      features_kept = and_right (all pubmed_kept t.references) _ k₃;
      contig_fine' = and_left (if_is contig_fine t.contig) _ f₃;
      letters_fine' = and_right (if_is contig_fine t.contig) _ f₃;
      features_read = and_left (all feature_read t.features) _ p;
      contig_read' = and_right (all feature_read t.features) _ p;
    }

record_back :
    (W : ℕ) (t : Table) (rest : List ℕ) → 21 < W → Rules W t → length_fits t ≡ true →
    read_record (written W false false t ++ rest) ≡ slashes_at t (bytes "//\n" ++ rest)
unfolding written
record_back W t rest w r n =
    let s₃ : List ℕ = origin_lines t.letters ++ (bytes "//\n" ++ rest) in
    let z : List ℕ = contig_lines W t.contig ++ s₃ in
    let s₂ : List ℕ = features_lines W t.features ++ z in
    let s₁ : List ℕ = header_lines W t ++ s₂ in
    let f = features_section W t.features t.contig t.letters rest w r.features_fine r.features_kept r.features_read in
    let c = no_count W t.contig t.letters rest in
    let o =
    origin_section (bare t) t.letters rest (bare_none t) (rw (bare_locus t) r.letters_fine') ∙
    ap (λ (x : Table). slashes_at x (bytes "//\n" ++ rest)) (bare_whole t) in
    rw
    (regroup₆ (locus_text false false t) (header_lines W t) (features_lines W t.features) (contig_lines W t.contig) (origin_lines t.letters)
    (bytes "//\n") rest)
    (record_steps t (locus_text false false t ++ s₁) s₁ s₂ s₃ (slashes_at t (bytes "//\n" ++ rest)) (preamble_none t s₁) (locus_back t s₁ r.locus_fine' r.locus_kept' n)
    (header_back W t s₂ r.header_kept' r.header_utf8 r.pubmed (features_start W t.features t.contig t.letters rest)
    (no_header W t.features t.contig t.letters rest))
    (shallow_middle s₂ (may_features t.features) z f (shallow_start z (contig_start W t.contig t.letters rest)) c
    (contig_shallow W t.contig t.letters rest r.contig_fine' r.contig_read'))
    (middle_steps t.features t.contig s₂ z s₃ f c (contig_section W t.contig t.letters rest r.contig_fine' r.contig_read'))
    o)

-- a table that the keeping writer takes, with the location rows of its texts (else: 10) and a length that a LOCUS line can give (every length of 32 bits), is read up to
-- its `//`, whatever follows
pub kept_then :
    (W : ℕ) (truncate escape : Bool) (t : Table) (rest : List ℕ) → width_fine W ≡ true → well_formed W truncate escape t ≡ true →
    keeps W truncate escape t ≡ true → locations_read t ≡ true → length_fits t ≡ true → read_record (written W truncate escape t ++ rest) ≡ slashes_at t (bytes "//\n" ++ rest)
unfolding keeps
kept_then W false false t rest w f k p n =
    let l : 60 ≤ W = leb-true 60 W (and_left (leb 60 W) _ w) in
    record_back W t rest (omega arith) (rules W t f k p) n
kept_then W false true t rest w f k p n = impossible cc
kept_then W true false t rest w f k p n = impossible cc
kept_then W true true t rest w f k p n = impossible cc

-- DEMAND 3 about the definitions. A table that the keeping writer takes, with the location rows of its texts (else: 10) and a length that a LOCUS line can give
-- (every length of 32 bits), is read back from what is written of it, whatever follows but a line end, which the reader would take too
pub kept :
    (W : ℕ) (truncate escape : Bool) (t : Table) (rest : List ℕ) → width_fine W ≡ true → well_formed W truncate escape t ≡ true →
    keeps W truncate escape t ≡ true → locations_read t ≡ true → length_fits t ≡ true → line_ends rest ≡ false → read_record (written W truncate escape t ++ rest) ≡ was_read t rest
kept W truncate escape t rest w f k p n e = kept_then W truncate escape t rest w f k p n ∙ slashes_back t rest e
