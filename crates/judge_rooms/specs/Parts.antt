-- What the functions of number 10 answer, each of the rooms that it looks at.
use Rattle.std.specs.Prelude.{ℕ, ◌+◌, ◌&&◌, List, [], get_or, eqb, Option, Some, None}
use Rattle.spec_format.specs.Bytes.{pick}
use Rattle.spec_format.specs.Rooms.{Rooms, row_text_fine, qualifiers_fine, rooms_in}
use Rattle.spec_format.specs.declared.Head.{Head}

-- rooms of which only those named matter
abbrev pub reference_rooms : List ℕ → List ℕ → Rooms
reference_rooms t r = rooms_in t r [] [] [] [] []

abbrev pub comment_rooms : List ℕ → List ℕ → Rooms
comment_rooms t c = rooms_in t [] c [] [] [] []

abbrev pub qualifier_rooms : List ℕ → List ℕ → Rooms
qualifier_rooms t q = rooms_in t [] [] [] q [] []

abbrev pub feature_rooms : List ℕ → List ℕ → List ℕ → Rooms
feature_rooms t f q = rooms_in t [] [] f q [] []

-- the head of a table without what has locations: its features and CONTIG
abbrev pub rest_head : Head → Head
rest_head h =
    record {
      name = h.name;
      length = h.length;
      molecule = h.molecule;
      circular = h.circular;
      division = h.division;
      date = h.date;
      definition = h.definition;
      accession = h.accession;
      version = h.version;
      dblink = h.dblink;
      keywords = h.keywords;
      source = h.source;
      references = h.references;
      comments = h.comments;
      features = 0;
      contig = None;
      letters = h.letters;
    }

-- the feature whose row is at a place, but for its location rows: where the next one's qualifiers may start
unfoldable pub feature_next : Rooms → ℕ → ℕ → Option ℕ
feature_next r at from =
    pick (row_text_fine r r.features at && row_text_fine r r.features (at + 2))
    (pick (eqb (get_or r.features (at + 5) 0) 0) (Some from)
    (pick (qualifiers_fine r from (get_or r.features (at + 4) 0) (get_or r.features (at + 5) 0))
    (Some (get_or r.features (at + 4) 0 + get_or r.features (at + 5) 0))
    None))
    None
