-- A table in lent rooms: what it takes of each (`sizes`), what it leaves there (`layout`), the table that rooms hold (`table_of`), and the
-- answers of the reader with number 6 on top. The store holds the texts in the table's own order, rows follow one another, letters too.
use Rattle.std.specs.Prelude.{ℕ, zero, suc, ◌+◌, ◌-◌, ◌*◌, ◌/◌, Bool, true, false, ◌&&◌, ◌||◌, List, [], ◌∷◌, ◌++◌, length, take, drop, get_or, eqb, leb, Option, Some, None}
use Rattle.spec_format.specs.Bytes.{pick, May, absent, is, each, all, same}
use Rattle.spec_format.specs.Table.{Source, Reference, Qualifier, LocationRow, Feature, Contig, Table}
use Rattle.spec_format.specs.Location.{Reading, one, none, too_deep, reading}
use Rattle.spec_format.specs.Record.{Outcome, was_read, not_read, most}
use Rattle.spec_format.specs.Strict.{read_by}
use Rattle.spec_format.specs.declared.Span.{Span}
use Rattle.spec_format.specs.declared.SourceText.{SourceText}
use Rattle.spec_format.specs.declared.ContigText.{ContigText}
use Rattle.spec_format.specs.declared.Head.{Head}
use Rattle.spec_format.specs.declared.Sizes.{Sizes}
use Rattle.spec_format.specs.declared.ReadAnswer.{ReadAnswer}
use Rattle.spec_format.specs.declared.ReadAnswer.TheVariants as answer

-- texts and letters are bytes; a row is 14, 2, 8, 4 or 7 numbers
pub record Rooms : Type 0 where
  pub texts : List ℕ
  pub references : List ℕ
  pub comments : List ℕ
  pub features : List ℕ
  pub qualifiers : List ℕ
  pub locations : List ℕ
  pub letters : List ℕ

-- what a call is lent, room by room
abbrev pub rooms_in : List ℕ → List ℕ → List ℕ → List ℕ → List ℕ → List ℕ → List ℕ → Rooms
rooms_in texts references comments features qualifiers locations letters =
    record {
      texts = texts;
      references = references;
      comments = comments;
      features = features;
      qualifiers = qualifiers;
      locations = locations;
      letters = letters;
    }

-- ---- pieces: the texts of a row, in order. One that is always there has start and length in the row; one that may be absent has start and
-- length plus one, and 0, 0 where it is absent

pub data Piece : Type 0 where
  always : List ℕ → Piece
  perhaps : May (List ℕ) → Piece

abbrev pub piece_text : Piece → List ℕ
piece_text (always t) = t
piece_text (perhaps absent) = []
piece_text (perhaps (is t)) = t

abbrev pub piece_row : ℕ → Piece → List ℕ
piece_row at (always t) = at ∷ length t ∷ []
piece_row at (perhaps absent) = 0 ∷ 0 ∷ []
piece_row at (perhaps (is t)) = at ∷ suc (length t) ∷ []

unfoldable pub pieces_text : List Piece → List ℕ
pieces_text ps = each piece_text ps

unfoldable pub pieces_row : ℕ → List Piece → List ℕ
pieces_row at [] = []
pieces_row at (p ∷ ps) = piece_row at p ++ pieces_row (at + length (piece_text p)) ps

abbrev pub organism_of : May Source → May (List ℕ)
organism_of absent = absent
organism_of (is s) = s.organism

abbrev pub source_of : May Source → May (List ℕ)
source_of absent = absent
source_of (is s) = is s.text

abbrev pub head_pieces : Table → List Piece
head_pieces t =
    perhaps t.locus.name ∷ perhaps t.locus.molecule ∷ always t.locus.division ∷ perhaps t.definition ∷ perhaps t.accession ∷
    perhaps t.version ∷ perhaps t.dblink ∷ perhaps t.keywords ∷ perhaps (source_of t.source) ∷ perhaps (organism_of t.source) ∷ []

abbrev pub reference_pieces : Reference → List Piece
reference_pieces r =
    always r.text ∷ perhaps r.authors ∷ perhaps r.consrtm ∷ always r.title ∷ perhaps r.journal ∷ perhaps r.pubmed ∷ perhaps r.remark ∷ []

abbrev pub comment_pieces : List ℕ → List Piece
comment_pieces c = always c ∷ []

abbrev pub feature_pieces : Feature → List Piece
feature_pieces f = always f.kind ∷ always f.location ∷ []

abbrev pub qualifier_pieces : Qualifier → List Piece
qualifier_pieces q = always q.key ∷ perhaps q.value ∷ []

-- the seven numbers of a location row, and those of rows one after the other
abbrev pub row_numbers : LocationRow → List ℕ
row_numbers l = l.form ∷ l.marks ∷ l.from ∷ l.to ∷ l.start ∷ l.length ∷ l.inside ∷ []

unfoldable pub location_numbers : List LocationRow → List ℕ
location_numbers ls = each row_numbers ls

abbrev pub contig_text : May Contig → May (List ℕ)
contig_text absent = absent
contig_text (is c) = is c.text

abbrev pub contig_rows : May Contig → List LocationRow
contig_rows absent = []
contig_rows (is c) = c.rows

-- ---- layout: the texts of rows, and the rows, with the running start in the store and, for features, the running numbers of qualifiers and of
-- location rows

unfoldable pub texts_of : {A : Type 0} → (A → List Piece) → List A → List ℕ
texts_of f [] = []
texts_of f (x ∷ xs) = pieces_text (f x) ++ texts_of f xs

unfoldable pub rows_of : {A : Type 0} → (A → List Piece) → ℕ → List A → List ℕ
rows_of f at [] = []
rows_of f at (x ∷ xs) = pieces_row at (f x) ++ rows_of f (at + length (pieces_text (f x))) xs

unfoldable pub feature_text : Feature → List ℕ
feature_text f = pieces_text (feature_pieces f) ++ texts_of qualifier_pieces f.qualifiers

unfoldable pub feature_rows : ℕ → ℕ → ℕ → List Feature → List ℕ
feature_rows at q l [] = []
feature_rows at q l (f ∷ fs) =
    pieces_row at (feature_pieces f) ++ q ∷ length f.qualifiers ∷ l ∷ length f.rows ∷ [] ++
    feature_rows (at + length (feature_text f)) (q + length f.qualifiers) (l + length f.rows) fs

unfoldable pub qualifier_rows : ℕ → List Feature → List ℕ
qualifier_rows at [] = []
qualifier_rows at (f ∷ fs) =
    rows_of qualifier_pieces (at + length (pieces_text (feature_pieces f))) f.qualifiers ++ qualifier_rows (at + length (feature_text f)) fs

unfoldable pub qualifier_count : List Feature → ℕ
qualifier_count [] = 0
qualifier_count (f ∷ fs) = length f.qualifiers + qualifier_count fs

-- the features' location rows in order, as numbers
abbrev pub feature_locations : Feature → List ℕ
feature_locations f = location_numbers f.rows

unfoldable pub location_count : List Feature → ℕ
location_count [] = 0
location_count (f ∷ fs) = length f.rows + location_count fs

-- where in the store the texts of references, comments, features and CONTIG start
abbrev pub references_at : Table → ℕ
references_at t = length (pieces_text (head_pieces t))

abbrev pub comments_at : Table → ℕ
comments_at t = references_at t + length (texts_of reference_pieces t.references)

abbrev pub features_at : Table → ℕ
features_at t = comments_at t + length (texts_of comment_pieces t.comments)

abbrev pub contig_at : Table → ℕ
contig_at t = features_at t + length (each feature_text t.features)

unfoldable pub layout : Table → Rooms
layout t =
    record {
      texts =
          pieces_text (head_pieces t) ++ texts_of reference_pieces t.references ++ texts_of comment_pieces t.comments ++ each feature_text t.features ++
          piece_text (perhaps (contig_text t.contig));
      references = rows_of reference_pieces (references_at t) t.references;
      comments = rows_of comment_pieces (comments_at t) t.comments;
      features = feature_rows (features_at t) 0 0 t.features;
      qualifiers = qualifier_rows (features_at t) t.features;
      locations = each feature_locations t.features ++ location_numbers (contig_rows t.contig);
      letters = t.letters;
    }

unfoldable pub sizes : Table → Sizes
sizes t =
    record {
      texts = length (layout t).texts;
      references = length t.references;
      comments = length t.comments;
      features = length t.features;
      qualifiers = qualifier_count t.features;
      locations = location_count t.features + length (contig_rows t.contig);
      letters = length t.letters;
    }

-- ---- the head

-- the start of the head's piece n
abbrev pub start_of : Table → ℕ → ℕ
start_of t n = length (pieces_text (take n (head_pieces t)))

abbrev pub span_of : ℕ → List ℕ → Span
span_of at t = record { start = at; length = length t }

abbrev pub text_at : ℕ → May (List ℕ) → Option Span
text_at at absent = None
text_at at (is t) = Some (span_of at t)

abbrev pub source_at : ℕ → ℕ → May Source → Option SourceText
source_at at o absent = None
source_at at o (is s) = Some (record { text = span_of at s.text; organism = text_at o s.organism })

abbrev pub contig_text_at : ℕ → ℕ → May Contig → Option ContigText
contig_text_at at row absent = None
contig_text_at at row (is c) = Some (record { text = span_of at c.text; row = row; rows = length c.rows })

abbrev pub length_of : May ℕ → Option ℕ
length_of absent = None
length_of (is n) = Some n

unfoldable pub head_of : Table → Head
head_of t =
    record {
      name = text_at (start_of t 0) t.locus.name;
      length = length_of t.locus.length;
      molecule = text_at (start_of t 1) t.locus.molecule;
      circular = t.locus.circular;
      division = span_of (start_of t 2) t.locus.division;
      date = t.locus.date;
      definition = text_at (start_of t 3) t.definition;
      accession = text_at (start_of t 4) t.accession;
      version = text_at (start_of t 5) t.version;
      dblink = text_at (start_of t 6) t.dblink;
      keywords = text_at (start_of t 7) t.keywords;
      source = source_at (start_of t 8) (start_of t 9) t.source;
      references = length t.references;
      comments = length t.comments;
      features = length t.features;
      contig = contig_text_at (contig_at t) (location_count t.features) t.contig;
      letters = length t.letters;
    }

-- ---- the table that rooms hold

abbrev pub cut : List ℕ → ℕ → ℕ → List ℕ
cut store start n = take n (drop start store)

abbrev pub span_text : List ℕ → Span → List ℕ
span_text store s = cut store s.start s.length

abbrev pub may_text : List ℕ → Option Span → May (List ℕ)
may_text store None = absent
may_text store (Some s) = is (span_text store s)

abbrev pub may_source : List ℕ → Option SourceText → May Source
may_source store None = absent
may_source store (Some s) = is (record { text = span_text store s.text; organism = may_text store s.organism })

abbrev pub may_length : Option ℕ → May ℕ
may_length None = absent
may_length (Some n) = is n

-- the text whose start and length stand at a place of a room of rows
abbrev pub text_in : List ℕ → List ℕ → ℕ → List ℕ
text_in store room at = cut store (get_or room at 0) (get_or room (at + 1) 0)

-- the same of one that may be absent: n is its length plus one
abbrev pub perhaps_text : List ℕ → ℕ → ℕ → May (List ℕ)
perhaps_text store start zero = absent
perhaps_text store start (suc n) = is (cut store start n)

abbrev pub perhaps_in : List ℕ → List ℕ → ℕ → May (List ℕ)
perhaps_in store room at = perhaps_text store (get_or room at 0) (get_or room (at + 1) 0)

-- n rows from row i on, which are w numbers each
unfoldable pub rows_from : {A : Type 0} → (ℕ → A) → ℕ → ℕ → ℕ → List A
rows_from f w i zero = []
rows_from f w i (suc n) = f (w * i) ∷ rows_from f w (i + 1) n

unfoldable pub location_row_in : Rooms → ℕ → LocationRow
location_row_in r at =
    record {
      form = get_or r.locations at 0;
      marks = get_or r.locations (at + 1) 0;
      from = get_or r.locations (at + 2) 0;
      to = get_or r.locations (at + 3) 0;
      start = get_or r.locations (at + 4) 0;
      length = get_or r.locations (at + 5) 0;
      inside = get_or r.locations (at + 6) 0;
    }

abbrev pub locations_from : Rooms → ℕ → ℕ → List LocationRow
locations_from r row rows = rows_from (location_row_in r) 7 row rows

abbrev pub may_contig : Rooms → Option ContigText → May Contig
may_contig r None = absent
may_contig r (Some c) = is (record { text = span_text r.texts c.text; rows = locations_from r c.row c.rows })

unfoldable pub reference_in : Rooms → ℕ → Reference
reference_in r at =
    record {
      text = text_in r.texts r.references at;
      authors = perhaps_in r.texts r.references (at + 2);
      consrtm = perhaps_in r.texts r.references (at + 4);
      title = text_in r.texts r.references (at + 6);
      journal = perhaps_in r.texts r.references (at + 8);
      pubmed = perhaps_in r.texts r.references (at + 10);
      remark = perhaps_in r.texts r.references (at + 12);
    }

unfoldable pub comment_in : Rooms → ℕ → List ℕ
comment_in r at = text_in r.texts r.comments at

unfoldable pub qualifier_in : Rooms → ℕ → Qualifier
qualifier_in r at = record { key = text_in r.texts r.qualifiers at; value = perhaps_in r.texts r.qualifiers (at + 2) }

unfoldable pub feature_in : Rooms → ℕ → Feature
feature_in r at =
    record {
      kind = text_in r.texts r.features at;
      location = text_in r.texts r.features (at + 2);
      qualifiers = rows_from (qualifier_in r) 4 (get_or r.features (at + 4) 0) (get_or r.features (at + 5) 0);
      rows = locations_from r (get_or r.features (at + 6) 0) (get_or r.features (at + 7) 0);
    }

unfoldable pub table_of : Rooms → Head → Table
table_of r h =
    record {
      locus =
          record {
            name = may_text r.texts h.name;
            length = may_length h.length;
            molecule = may_text r.texts h.molecule;
            circular = h.circular;
            division = span_text r.texts h.division;
            date = h.date;
          };
      definition = may_text r.texts h.definition;
      accession = may_text r.texts h.accession;
      version = may_text r.texts h.version;
      dblink = may_text r.texts h.dblink;
      keywords = may_text r.texts h.keywords;
      source = may_source r.texts h.source;
      references = rows_from (reference_in r) 14 0 h.references;
      comments = rows_from (comment_in r) 2 0 h.comments;
      features = rows_from (feature_in r) 8 0 h.features;
      contig = may_contig r h.contig;
      letters = take h.letters r.letters;
    }

-- ---- number 10: "table has a span or row outside its room, a feature's qualifiers starting before the end of an earlier feature's, or a room
-- over 16,777,216 long"; rooms of rows are measured in rows. Ticket 1: "where a text has its reading, location rows other than that reading's are 10"

abbrev pub span_fine : ℕ → ℕ → ℕ → Bool
span_fine room start n = leb start room && leb n (room - start)

abbrev pub text_fine : ℕ → Option Span → Bool
text_fine room None = true
text_fine room (Some s) = span_fine room s.start s.length

abbrev pub source_fine : ℕ → Option SourceText → Bool
source_fine room None = true
source_fine room (Some s) = span_fine room s.text.start s.text.length && text_fine room s.organism

-- the text at a place of a room of rows; one that may be absent
abbrev pub row_text_fine : Rooms → List ℕ → ℕ → Bool
row_text_fine r room at = span_fine (length r.texts) (get_or room at 0) (get_or room (at + 1) 0)

abbrev pub row_perhaps_fine : Rooms → List ℕ → ℕ → Bool
row_perhaps_fine r room at = pick (eqb (get_or room (at + 1) 0) 0) true (span_fine (length r.texts) (get_or room at 0) (get_or room (at + 1) 0 - 1))

-- the rows of a text's reading, where it has one, are these
abbrev pub read_as : Reading → List LocationRow → Bool
read_as (one ls) rows = same (location_numbers ls) (location_numbers rows)
read_as none rows = true
read_as too_deep rows = true

-- each feature's rows, and CONTIG's, are those of its text, where this has a reading
abbrev pub feature_read : Feature → Bool
feature_read f = read_as (reading false f.location) f.rows

abbrev pub contig_read : May Contig → Bool
contig_read absent = true
contig_read (is c) = read_as (reading true c.text) c.rows

unfoldable pub locations_read : Table → Bool
locations_read t = all feature_read t.features && contig_read t.contig

-- `rows` location rows from `row` on lie in their room and are those of the text; where there are none, they start nowhere
unfoldable pub location_fine : Bool → Rooms → List ℕ → ℕ → ℕ → Bool
location_fine gaps r text row rows =
    (eqb rows 0 || span_fine (length r.locations / 7) row rows) && read_as (reading gaps text) (locations_from r row rows)

abbrev pub contig_text_fine : Rooms → Option ContigText → Bool
contig_text_fine r None = true
contig_text_fine r (Some c) = span_fine (length r.texts) c.text.start c.text.length && location_fine true r (span_text r.texts c.text) c.row c.rows

-- n rows from row i on, of w numbers each, are fine
unfoldable pub rows_fine : (ℕ → Bool) → ℕ → ℕ → ℕ → Bool
rows_fine f w i zero = true
rows_fine f w i (suc n) = elim (f (w * i)) [ true ↦ rows_fine f w (i + 1) n | false ↦ false ]

unfoldable pub reference_row_fine : Rooms → ℕ → Bool
reference_row_fine r at =
    row_text_fine r r.references at && (row_perhaps_fine r r.references (at + 2) && (row_perhaps_fine r r.references (at + 4) &&
    (row_text_fine r r.references (at + 6) && (row_perhaps_fine r r.references (at + 8) && (row_perhaps_fine r r.references (at + 10) &&
    row_perhaps_fine r r.references (at + 12))))))

unfoldable pub comment_row_fine : Rooms → ℕ → Bool
comment_row_fine r at = row_text_fine r r.comments at

unfoldable pub qualifier_row_fine : Rooms → ℕ → Bool
qualifier_row_fine r at = row_text_fine r r.qualifiers at && row_perhaps_fine r r.qualifiers (at + 2)

-- `count` qualifiers from `first` on, which start at `from` or later, inside their room
unfoldable pub qualifiers_fine : Rooms → ℕ → ℕ → ℕ → Bool
qualifiers_fine r from first count =
    leb from first && (span_fine (length r.qualifiers / 4) first count && rows_fine (qualifier_row_fine r) 4 first count)

-- the texts of a feature and its location rows
unfoldable pub feature_row_fine : Rooms → ℕ → Bool
feature_row_fine r at =
    row_text_fine r r.features at && (row_text_fine r r.features (at + 2) &&
    location_fine false r (text_in r.texts r.features (at + 2)) (get_or r.features (at + 6) 0) (get_or r.features (at + 7) 0))

-- n features from feature i on; the qualifiers of the earlier ones end at `from`. A feature without qualifiers has none that start anywhere
unfoldable pub features_fine : Rooms → ℕ → ℕ → ℕ → Bool
features_fine r i from zero = true
features_fine r i from (suc n) =
    elim (feature_row_fine r (8 * i)) [
      | false ↦ false
      | true ↦
          elim (eqb (get_or r.features (8 * i + 5) 0) 0) [
            | true ↦ features_fine r (i + 1) from n
            | false ↦
                elim (qualifiers_fine r from (get_or r.features (8 * i + 4) 0) (get_or r.features (8 * i + 5) 0)) [
                  | false ↦ false
                  | true ↦
                      features_fine r (i + 1) (get_or r.features (8 * i + 4) 0 + get_or r.features (8 * i + 5) 0) n
                ]
          ]
    ]

unfoldable pub lengths_fine : Rooms → Bool
lengths_fine r =
    leb (length r.texts) most && (leb (length r.references / 14) most && (leb (length r.comments / 2) most && (leb (length r.features / 8) most &&
    (leb (length r.qualifiers / 4) most && (leb (length r.locations / 7) most && leb (length r.letters) most)))))

unfoldable pub head_fine : Rooms → Head → Bool
head_fine r h =
    text_fine (length r.texts) h.name && (text_fine (length r.texts) h.molecule &&
    (span_fine (length r.texts) h.division.start h.division.length && (text_fine (length r.texts) h.definition &&
    (text_fine (length r.texts) h.accession && (text_fine (length r.texts) h.version && (text_fine (length r.texts) h.dblink &&
    (text_fine (length r.texts) h.keywords && (source_fine (length r.texts) h.source && contig_text_fine r h.contig))))))))

-- as many rows and letters as the head says
unfoldable pub counts_fine : Rooms → Head → Bool
counts_fine r h =
    leb h.references (length r.references / 14) && (leb h.comments (length r.comments / 2) &&
    (leb h.features (length r.features / 8) && leb h.letters (length r.letters)))

-- number 10 is not due
unfoldable pub rooms_fine : Rooms → Head → Bool
rooms_fine r h =
    lengths_fine r && (head_fine r h && (counts_fine r h && (rows_fine (reference_row_fine r) 14 0 h.references &&
    (rows_fine (comment_row_fine r) 2 0 h.comments && features_fine r 0 0 h.features))))

-- ---- the reader's answer: "6 last", "the exact sizes needed"

unfoldable pub fits : Sizes → Rooms → Bool
fits n r =
    leb n.texts (length r.texts) && (leb n.references (length r.references / 14) && (leb n.comments (length r.comments / 2) &&
    (leb n.features (length r.features / 8) && (leb n.qualifiers (length r.qualifiers / 4) && (leb n.locations (length r.locations / 7) &&
    leb n.letters (length r.letters))))))

unfoldable pub answer_of : ℕ → Rooms → Outcome → ReadAnswer
answer_of n r (was_read t rest) = pick (fits (sizes t) r) (answer.Done (head_of t) (n - length rest)) (answer.Room (sizes t))
answer_of n r (not_read why) = answer.Refused why

-- what reading the slice s at a place answers, strictly or not, lent rooms r
unfoldable pub read_answer : Bool → List ℕ → ℕ → Rooms → ReadAnswer
read_answer strict s at r = answer_of (length s) r (read_by strict s at)

-- a room after a success: "Success leaves unused room untouched"
abbrev pub over : List ℕ → List ℕ → List ℕ
over new old = new ++ drop (length new) old

abbrev pub over_rooms : Rooms → Rooms → Rooms
over_rooms new old =
    record {
      texts = over new.texts old.texts;
      references = over new.references old.references;
      comments = over new.comments old.comments;
      features = over new.features old.features;
      qualifiers = over new.qualifiers old.qualifiers;
      locations = over new.locations old.locations;
      letters = over new.letters old.letters;
    }

unfoldable pub rooms_of : Rooms → Outcome → Rooms
rooms_of r (was_read t rest) = pick (fits (sizes t) r) (over_rooms (layout t) r) r
rooms_of r (not_read why) = r

-- the rooms afterwards: "All but 0 change no lent byte"
unfoldable pub rooms_after : Bool → List ℕ → ℕ → Rooms → Rooms
rooms_after strict s at r = rooms_of r (read_by strict s at)
