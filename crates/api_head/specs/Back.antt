-- What is told of a head is understood: the numbers of a head are 33, and stand for that head. Numbers that stand for none are refused.
use Rattle.std.specs.Prelude.{ℕ, suc, ◌+◌, ◌≤◌, ◌<◌, ◌≡◌, refl, Bool, true, false, not, List, [], ◌∷◌, length, get_or, eqb, leb, Option, Some, None}
use Rattle.std.proofs.Common.{ap, ◌∙◌, arith, lt-ltb, le-ltb, le-leb, ne_eqb, leb-true}
use Rattle.std.proofs.lemmas.Bool.{lt-leb}
use Rattle.spec_format.specs.Record.{most}
use Rattle.spec_format.specs.Rooms.{Rooms, rooms_fine, lengths_fine, head_fine}
use Rattle.spec_format.specs.declared.Date.{Date}
use Rattle.spec_format.specs.declared.Span.{Span}
use Rattle.spec_format.specs.declared.SourceText.{SourceText}
use Rattle.spec_format.specs.declared.ContigText.{ContigText}
use Rattle.spec_format.specs.declared.Head.{Head}
use Rattle.spec_rooms.specs.LayoutLengths.{and_left}
use Rattle.spec_contracts.specs.Numbers.{largest, above, flag, text_numbers, source_numbers, contig_numbers, length_numbers, date_numbers, locus_numbers, field_numbers}
use Rattle.spec_contracts.specs.Numbers.{rest_numbers, head_numbers, text_from, source_from, contig_from, length_from, date_from, head_in, outside, head_from}

-- ---- how many numbers

text_two : (t : Option Span) → text_numbers t ≡ get_or (text_numbers t) 0 0 ∷ get_or (text_numbers t) 1 0 ∷ []
text_two None = refl
text_two (Some s) = refl

source_four : (t : Option SourceText) → source_numbers t ≡
    get_or (source_numbers t) 0 0 ∷ get_or (source_numbers t) 1 0 ∷ get_or (source_numbers t) 2 0 ∷ get_or (source_numbers t) 3 0 ∷ []
source_four None = refl
source_four (Some s) = rw (text_two s.organism)

contig_four : (t : Option ContigText) → contig_numbers t ≡
    get_or (contig_numbers t) 0 0 ∷ get_or (contig_numbers t) 1 0 ∷ get_or (contig_numbers t) 2 0 ∷ get_or (contig_numbers t) 3 0 ∷ []
contig_four None = refl
contig_four (Some c) = refl

length_one : (t : Option ℕ) → length_numbers t ≡ get_or (length_numbers t) 0 0 ∷ []
length_one None = refl
length_one (Some n) = refl

date_three : (t : Option Date) → date_numbers t ≡ get_or (date_numbers t) 0 0 ∷ get_or (date_numbers t) 1 0 ∷ get_or (date_numbers t) 2 0 ∷ []
date_three None = refl
date_three (Some d) = refl

-- a head's numbers one by one
unfoldable each : Head → List ℕ
each h =
    get_or (text_numbers h.name) 0 0 ∷ get_or (text_numbers h.name) 1 0 ∷ get_or (length_numbers h.length) 0 0 ∷
    get_or (text_numbers h.molecule) 0 0 ∷ get_or (text_numbers h.molecule) 1 0 ∷ flag h.circular ∷ h.division.start ∷ h.division.length ∷
    get_or (date_numbers h.date) 0 0 ∷ get_or (date_numbers h.date) 1 0 ∷ get_or (date_numbers h.date) 2 0 ∷
    get_or (text_numbers h.definition) 0 0 ∷ get_or (text_numbers h.definition) 1 0 ∷ get_or (text_numbers h.accession) 0 0 ∷ get_or (text_numbers h.accession) 1 0 ∷
    get_or (text_numbers h.version) 0 0 ∷ get_or (text_numbers h.version) 1 0 ∷ get_or (text_numbers h.dblink) 0 0 ∷ get_or (text_numbers h.dblink) 1 0 ∷
    get_or (text_numbers h.keywords) 0 0 ∷ get_or (text_numbers h.keywords) 1 0 ∷ get_or (source_numbers h.source) 0 0 ∷ get_or (source_numbers h.source) 1 0 ∷
    get_or (source_numbers h.source) 2 0 ∷ get_or (source_numbers h.source) 3 0 ∷ h.references ∷ h.comments ∷ h.features ∷
    get_or (contig_numbers h.contig) 0 0 ∷ get_or (contig_numbers h.contig) 1 0 ∷ get_or (contig_numbers h.contig) 2 0 ∷ get_or (contig_numbers h.contig) 3 0 ∷
    h.letters ∷ []

numbers_are : (h : Head) → head_numbers h ≡ each h
unfolding each head_numbers locus_numbers field_numbers rest_numbers
numbers_are h =
    rw (
      text_two h.name,
      length_one h.length,
      text_two h.molecule,
      date_three h.date,
      text_two h.definition,
      text_two h.accession,
      text_two h.version,
      text_two h.dblink,
      text_two h.keywords,
      source_four h.source,
      contig_four h.contig,
    )

pub head_length : (h : Head) → length (head_numbers h) ≡ 33
unfolding each
head_length h = rw (numbers_are h)

-- ---- back

-- lengths and dates that their numbers can tell
abbrev pub TextSmall : Option Span → Type 0
TextSmall None = Unit
TextSmall (Some s) = s.length < largest

abbrev pub SourceSmall : Option SourceText → Type 0
SourceSmall None = Unit
SourceSmall (Some s) = (s.text.length < largest) × TextSmall s.organism

abbrev pub ContigSmall : Option ContigText → Type 0
ContigSmall None = Unit
ContigSmall (Some c) = c.text.length < largest

abbrev pub LengthSmall : Option ℕ → Type 0
LengthSmall None = Unit
LengthSmall (Some n) = n < 4294967296

abbrev pub DateSmall : Option Date → Type 0
DateSmall None = Unit
DateSmall (Some d) = (1 ≤ d.day) × ((d.day ≤ 255) × ((d.month ≤ 255) × (d.year ≤ 65535)))

-- a u32 and a date's numbers are small by their types; a text in a room is; a day is at least 1
pub record Small (h : Head) : Type 0 where
  pub name : TextSmall h.name
  pub length : LengthSmall h.length
  pub molecule : TextSmall h.molecule
  pub date : DateSmall h.date
  pub definition : TextSmall h.definition
  pub accession : TextSmall h.accession
  pub version : TextSmall h.version
  pub dblink : TextSmall h.dblink
  pub keywords : TextSmall h.keywords
  pub source : SourceSmall h.source
  pub contig : ContigSmall h.contig

above_suc : (n : ℕ) → n < largest → above n ≡ suc n
above_suc n k = let e : n + 1 ≡ suc n = omega arith in rw (lt-ltb n largest k, e)

text_back : (t : Option Span) → TextSmall t → text_from (get_or (text_numbers t) 0 0) (get_or (text_numbers t) 1 0) ≡ t
text_back None k = refl
text_back (Some s) k = rw (above_suc s.length k)

source_back : (t : Option SourceText) → SourceSmall t →
    source_from (get_or (source_numbers t) 0 0) (get_or (source_numbers t) 1 0) (text_from (get_or (source_numbers t) 2 0) (get_or (source_numbers t) 3 0)) ≡ t
source_back None k = refl
source_back (Some s) k = rw (above_suc s.text.length k.0, text_back s.organism k.1)

contig_back : (t : Option ContigText) → ContigSmall t →
    contig_from (get_or (contig_numbers t) 0 0) (get_or (contig_numbers t) 1 0) (get_or (contig_numbers t) 2 0) (get_or (contig_numbers t) 3 0) ≡ t
contig_back None k = refl
contig_back (Some c) k = rw (above_suc c.text.length k)

length_back : (t : Option ℕ) → length_from (get_or (length_numbers t) 0 0) ≡ t
length_back None = refl
length_back (Some n) = let e : n + 1 ≡ suc n = omega arith in rw e

length_fits_lem : (t : Option ℕ) → LengthSmall t → leb (get_or (length_numbers t) 0 0) 4294967296 ≡ true
length_fits_lem None k = le-leb 0 4294967296 (omega arith)
length_fits_lem (Some n) k = le-leb (n + 1) 4294967296 (omega arith)

flag_back : (b : Bool) → not (eqb (flag b) 0) ≡ b
flag_back true = refl
flag_back false = refl

date_back : (t : Option Date) → DateSmall t → date_from (get_or (date_numbers t) 0 0) (get_or (date_numbers t) 1 0) (get_or (date_numbers t) 2 0) ≡ t
date_back None k = refl
date_back (Some d) k =
    let z : d.day ≡ 0 → ⊥ = λ e. omega (arith, k.0) in
    rw (ne_eqb d.day 0 z, le-ltb 255 d.day k.1.0, le-ltb 255 d.month k.1.1.0, le-ltb 65535 d.year k.1.1.1)

-- a head is known by its fields
same : (h : Head) (name molecule definition accession version dblink keywords : Option Span) (contig : Option ContigText) (length : Option ℕ) (circular : Bool)
    (date : Option Date) (source : Option SourceText)
    → name ≡ h.name → molecule ≡ h.molecule → definition ≡ h.definition → accession ≡ h.accession → version ≡ h.version → dblink ≡ h.dblink
    → keywords ≡ h.keywords → contig ≡ h.contig → length ≡ h.length → circular ≡ h.circular → date ≡ h.date → source ≡ h.source
    → record {
      name = name;
      length = length;
      molecule = molecule;
      circular = circular;
      division = h.division;
      date = date;
      definition = definition;
      accession = accession;
      version = version;
      dblink = dblink;
      keywords = keywords;
      source = source;
      references = h.references;
      comments = h.comments;
      features = h.features;
      contig = contig;
      letters = h.letters;
    } ≡ h
same h n m d a v b k c l r t s e₁ e₂ e₃ e₄ e₅ e₆ e₇ e₈ e₉ f₁ f₂ f₃ = rw (e₁, e₂, e₃, e₄, e₅, e₆, e₇, e₈, e₉, f₁, f₂, f₃)

each_back : (h : Head) → Small h → head_in (each h) ≡ h
unfolding each head_in
each_back h k =
    same h _ _ _ _ _ _ _ _ _ _ _ _ (text_back h.name k.name) (text_back h.molecule k.molecule) (text_back h.definition k.definition)
    (text_back h.accession k.accession) (text_back h.version k.version) (text_back h.dblink k.dblink)
    (text_back h.keywords k.keywords) (contig_back h.contig k.contig) (length_back h.length) (flag_back h.circular)
    (date_back h.date k.date) (source_back h.source k.source)

each_fits : (h : Head) → Small h → head_from (each h) ≡ head_in (each h)
unfolding each head_from
each_fits h k = rw (length_fits_lem h.length k.length)

-- THE NUMBERS OF A HEAD STAND FOR THAT HEAD
pub head_back : (h : Head) → Small h → head_from (head_numbers h) ≡ h
head_back h k = ap head_from (numbers_are h) ∙ each_fits h k ∙ each_back h k

texts_short : (r : Rooms) → lengths_fine r ≡ true → length r.texts ≤ most
unfolding lengths_fine
texts_short r e = leb-true (length r.texts) most (and_left _ _ e)

division_outside : (r : Rooms) → length r.texts ≤ most → head_fine r outside ≡ false
unfolding head_fine outside
division_outside r k = rw (lt-leb largest (length r.texts) (omega (arith, k)))

-- NUMBERS THAT STAND FOR NO HEAD ARE REFUSED: number 10 is due, whatever the rooms
pub outside_refused : (r : Rooms) → rooms_fine r outside ≡ false
unfolding rooms_fine
outside_refused r = go (lengths_fine r) refl
  where
    go : (b : Bool) → lengths_fine r ≡ b → rooms_fine r outside ≡ false
    go false e = rw e
    go true e = rw (e, division_outside r (texts_short r e))
