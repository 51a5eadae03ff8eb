-- A head as 33 numbers, and the head that numbers stand for. A text that may be absent is its start and its length plus one, and 0, 0 where it is absent, as in rows.
use Rattle.std.specs.Prelude.{ℕ, zero, suc, ◌+◌, Bool, false, not, cond, ◌&&◌, List, [], ◌∷◌, ◌++◌, length, get_or, eqb, ltb, leb, Option, Some, None}
use Rattle.spec_format.specs.Bytes.{pick}
use Rattle.spec_format.specs.declared.Date.{Date}
use Rattle.spec_format.specs.declared.Span.{Span}
use Rattle.spec_format.specs.declared.SourceText.{SourceText}
use Rattle.spec_format.specs.declared.ContigText.{ContigText}
use Rattle.spec_format.specs.declared.Head.{Head}

-- the largest number that a usize holds
abbrev pub largest : ℕ
largest = 18446744073709551615

-- ---- a head's numbers

-- n + 1; no text in a room is as long as the largest number
abbrev pub above : ℕ → ℕ
above n = pick (ltb n largest) (n + 1) n

abbrev pub span_numbers : Span → List ℕ
span_numbers s = s.start ∷ s.length ∷ []

abbrev pub text_numbers : Option Span → List ℕ
text_numbers None = 0 ∷ 0 ∷ []
text_numbers (Some s) = s.start ∷ above s.length ∷ []

abbrev pub source_numbers : Option SourceText → List ℕ
source_numbers None = 0 ∷ 0 ∷ 0 ∷ 0 ∷ []
source_numbers (Some s) = s.text.start ∷ above s.text.length ∷ [] ++ text_numbers s.organism

-- the text, and its first location row and how many there are
abbrev pub contig_numbers : Option ContigText → List ℕ
contig_numbers None = 0 ∷ 0 ∷ 0 ∷ 0 ∷ []
contig_numbers (Some c) = c.text.start ∷ above c.text.length ∷ c.row ∷ c.rows ∷ []

abbrev pub length_numbers : Option ℕ → List ℕ
length_numbers None = 0 ∷ []
length_numbers (Some n) = (n + 1) ∷ []

abbrev pub flag : Bool → ℕ
flag b = cond b 1 0

abbrev pub date_numbers : Option Date → List ℕ
date_numbers None = 0 ∷ 0 ∷ 0 ∷ []
date_numbers (Some d) = d.day ∷ d.month ∷ d.year ∷ []

unfoldable pub locus_numbers : Head → List ℕ
locus_numbers h =
    text_numbers h.name ++ length_numbers h.length ++ text_numbers h.molecule ++ flag h.circular ∷ [] ++ span_numbers h.division ++
    date_numbers h.date

unfoldable pub field_numbers : Head → List ℕ
field_numbers h =
    text_numbers h.definition ++ text_numbers h.accession ++ text_numbers h.version ++ text_numbers h.dblink ++ text_numbers h.keywords ++
    source_numbers h.source

unfoldable pub rest_numbers : Head → List ℕ
rest_numbers h = h.references ∷ h.comments ∷ [] ++ h.features ∷ [] ++ contig_numbers h.contig ++ h.letters ∷ []

unfoldable pub head_numbers : Head → List ℕ
head_numbers h = locus_numbers h ++ field_numbers h ++ rest_numbers h

-- ---- the head that numbers stand for

abbrev pub text_from : ℕ → ℕ → Option Span
text_from start zero = None
text_from start (suc n) = Some (record { start = start; length = n })

abbrev pub source_from : ℕ → ℕ → Option Span → Option SourceText
source_from start zero o = None
source_from start (suc n) o = Some (record { text = record { start = start; length = n }; organism = o })

abbrev pub contig_from : ℕ → ℕ → ℕ → ℕ → Option ContigText
contig_from start zero row rows = None
contig_from start (suc n) row rows = Some (record { text = record { start = start; length = n }; row = row; rows = rows })

abbrev pub length_from : ℕ → Option ℕ
length_from zero = None
length_from (suc n) = Some n

-- the lower of two numbers
abbrev pub lower : ℕ → ℕ → ℕ
lower top n = pick (ltb top n) top n

-- a number that is too large for a date stands for another that no date has, so number 11 is due for it
abbrev pub on_date : ℕ → ℕ → ℕ → Option Date
on_date d m y = Some (record { day = lower 255 d; month = lower 255 m; year = lower 65535 y })

abbrev pub date_from : ℕ → ℕ → ℕ → Option Date
date_from d m y = pick (eqb d 0 && (eqb m 0 && eqb y 0)) None (on_date d m y)

abbrev pub text_in : List ℕ → ℕ → Option Span
text_in ns i = text_from (get_or ns i 0) (get_or ns (i + 1) 0)

abbrev pub span_in : List ℕ → ℕ → Span
span_in ns i = record { start = get_or ns i 0; length = get_or ns (i + 1) 0 }

abbrev pub source_in : List ℕ → ℕ → Option SourceText
source_in ns i = source_from (get_or ns i 0) (get_or ns (i + 1) 0) (text_in ns (i + 2))

abbrev pub contig_in : List ℕ → ℕ → Option ContigText
contig_in ns i = contig_from (get_or ns i 0) (get_or ns (i + 1) 0) (get_or ns (i + 2) 0) (get_or ns (i + 3) 0)

abbrev pub date_in : List ℕ → ℕ → Option Date
date_in ns i = date_from (get_or ns i 0) (get_or ns (i + 1) 0) (get_or ns (i + 2) 0)

unfoldable pub head_in : List ℕ → Head
head_in ns =
    record {
      name = text_in ns 0;
      length = length_from (get_or ns 2 0);
      molecule = text_in ns 3;
      circular = not (eqb (get_or ns 5 0) 0);
      division = span_in ns 6;
      date = date_in ns 8;
      definition = text_in ns 11;
      accession = text_in ns 13;
      version = text_in ns 15;
      dblink = text_in ns 17;
      keywords = text_in ns 19;
      source = source_in ns 21;
      references = get_or ns 25 0;
      comments = get_or ns 26 0;
      features = get_or ns 27 0;
      contig = contig_in ns 28;
      letters = get_or ns 32 0;
    }

-- a head whose division lies outside every room, so number 10 is due for it
unfoldable pub outside : Head
outside =
    record {
      name = None;
      length = None;
      molecule = None;
      circular = false;
      division = record { start = largest; length = 0 };
      date = None;
      definition = None;
      accession = None;
      version = None;
      dblink = None;
      keywords = None;
      source = None;
      references = 0;
      comments = 0;
      features = 0;
      contig = None;
      letters = 0;
    }

-- fewer than 33 numbers, or a length above 4,294,967,295, is no head: number 10
unfoldable pub head_from : List ℕ → Head
head_from ns = pick (leb 33 (length ns)) (pick (leb (get_or ns 2 0) 4294967296) (head_in ns) outside) outside
