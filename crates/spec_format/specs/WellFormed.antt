-- Numbers 11 and 12: which texts the writer can lay out, and which widths there are.
use Rattle.std.specs.Prelude.{ℕ, ◌-◌, Bool, true, false, ◌&&◌, List, [], ◌∷◌, length, leb, Option, Some, None}
use Rattle.spec_format.specs.Bytes.{pick, May, absent, is, some, all, between, visible, printing, letter, but}
use Rattle.spec_format.specs.Utf8.{utf8}
use Rattle.spec_format.specs.Dates.{made, is_date}
use Rattle.spec_format.specs.Table.{Source, Reference, Qualifier, Feature, Contig, Table}
use Rattle.spec_format.specs.Features.{kind_text}
use Rattle.spec_format.specs.Location.{locates}
use Rattle.spec_format.specs.Record.{promised}
use Rattle.spec_format.specs.declared.Date.{Date}
use Rattle.spec_format.specs.Write.{printed_name, comma_key}

-- number 12: "width not 60 to 132"
abbrev pub width_fine : ℕ → Bool
width_fine W = between 60 132 W

-- where it is present, it passes p
abbrev pub if_is : {A : Type 0} → (A → Bool) → May A → Bool
if_is p absent = true
if_is p (is a) = p a

-- ---- each header text passes p

abbrev pub source_texts : (List ℕ → Bool) → Source → Bool
source_texts p s = p s.text && if_is p s.organism

unfoldable pub reference_texts : (List ℕ → Bool) → Reference → Bool
reference_texts p r =
    p r.text && (if_is p r.authors && (if_is p r.consrtm && (p r.title && (if_is p r.journal && (if_is p r.pubmed && if_is p r.remark)))))

unfoldable pub header_texts : (List ℕ → Bool) → Table → Bool
header_texts p t =
    if_is p t.definition && (if_is p t.accession && (if_is p t.version && (if_is p t.dblink && (if_is p t.keywords &&
    (if_is (source_texts p) t.source && (all (reference_texts p) t.references && all p t.comments))))))

-- ---- number 11: "a text the writer cannot lay out"

-- "printed name empty or, like division and any molecule type (left out or not), with bytes outside 32 to 126"; "day not 1 to 31, .."
abbrev pub date_fine : Option Date → Bool
date_fine None = true
date_fine (Some d) = is_date (made d.day d.month d.year)

unfoldable pub locus_fine : Bool → Bool → Table → Bool
locus_fine truncate escape t =
    some (printed_name truncate escape t) && (all printing (printed_name truncate escape t) && (all printing t.locus.division &&
    (if_is (all printing) t.locus.molecule && date_fine t.locus.date)))

-- "kind not 1 to W - 7 bytes of 33 to 126 or beginning `/`"
abbrev pub kind_fine : ℕ → List ℕ → Bool
kind_fine W k = leb (length k) (W - 7) && kind_text k

-- "key not 1 to W - 25 such bytes or holding `=`"
abbrev pub key_fine : ℕ → List ℕ → Bool
key_fine W k = leb (length k) (W - 25) && (some k && (all visible k && all (but 61) k))

-- "comma-broken value empty or with other bytes"
abbrev pub comma_text : List ℕ → Bool
comma_text v = some v && all visible v

-- ".. text not UTF-8"
abbrev pub value_fine : List ℕ → List ℕ → Bool
value_fine k v = pick (comma_key k) (comma_text v) (utf8 v)

unfoldable pub qualifier_fine : ℕ → Qualifier → Bool
qualifier_fine W q = key_fine W q.key && if_is (value_fine q.key) q.value

-- ticket 1: "In writing both are 11": a location without a reading, be it for a seventeenth word
unfoldable pub feature_fine : ℕ → Feature → Bool
feature_fine W f = kind_fine W f.kind && (locates false f.location && all (qualifier_fine W) f.qualifiers)

abbrev pub contig_fine : Contig → Bool
contig_fine c = locates true c.text

-- "a sequence byte that is no letter; letters present that do not number the length"
unfoldable pub letters_fine : May ℕ → List ℕ → Bool
letters_fine l [] = true
letters_fine l (b ∷ t) = all letter (b ∷ t) && promised l (length (b ∷ t))

-- number 11 is not due
unfoldable pub well_formed : ℕ → Bool → Bool → Table → Bool
well_formed W truncate escape t =
    locus_fine truncate escape t && (header_texts utf8 t && (all (feature_fine W) t.features && (if_is contig_fine t.contig &&
    letters_fine t.locus.length t.letters)))
