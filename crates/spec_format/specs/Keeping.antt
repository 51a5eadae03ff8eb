-- The keeping rules, each a named part, and the one test that they make (number 13).
use Rattle.std.specs.Prelude.{ℕ, suc, ◌+◌, Bool, true, false, ◌&&◌, not, List, [], ◌∷◌, length, eqb, ltb, leb}
use Rattle.spec_format.specs.Bytes.{pick, May, absent, is, bytes, some, starts, all, same, visible, space, quote, but}
use Rattle.spec_format.specs.Dates.{is_date}
use Rattle.spec_format.specs.Table.{Locus, Reference, Qualifier, Feature, Table}
use Rattle.spec_format.specs.Write.{comma_key, bare_key}
use Rattle.spec_format.specs.WellFormed.{if_is, header_texts}

-- "truncation and escaping off"
abbrev pub switches_kept : Bool → Bool → Bool
switches_kept truncate escape = not truncate && not escape

abbrev pub spaceless : List ℕ → Bool
spaceless t = some t && all (but 32) t

abbrev pub present : {A : Type 0} → May A → Bool
present absent = false
present (is a) = true

-- "Name, length, date present; name without `:`; name, division, any molecule type non-empty and spaceless"
unfoldable pub locus_kept : Locus → Bool
locus_kept l =
    present l.name && (present l.length && (is_date l.date && (if_is (all (but 58)) l.name &&
    (if_is spaceless l.name && (spaceless l.division && if_is spaceless l.molecule)))))

-- "no CR, no final LF, and each line with its indent (with `/key=`), opening quote and escapes shorter than W": q: quotes are doubled; then the
-- width, the indent, and the columns used
unfoldable pub lines_kept : Bool → ℕ → ℕ → ℕ → List ℕ → Bool
lines_kept q W indent used [] = ltb used W
lines_kept q W indent used (b ∷ t) =
    elim (q && eqb b 34) [
      | true ↦ lines_kept q W indent (suc (suc used)) t
      | false ↦
          elim (eqb b 10) [
            | true ↦ ltb used W && (some t && lines_kept q W indent indent t)
            | false ↦
                elim (eqb b 13) [ true ↦ false | false ↦ lines_kept q W indent (suc used) t ]
          ]
    ]

-- ".. Header texts do not begin with a space"
unfoldable pub header_kept : ℕ → List ℕ → Bool
header_kept W t = lines_kept false W 12 12 t && not (starts space t)

abbrev pub no_line_end : List ℕ → Bool
no_line_end t = all (but 10) t && all (but 13) t

-- "PUBMED has no LF"
abbrev pub pubmed_kept : Reference → Bool
pubmed_kept r = if_is (all (but 10)) r.pubmed

-- "Kinds at most 15 bytes"
abbrev pub kind_kept : List ℕ → Bool
kind_kept k = leb (length k) 15

-- "Locations and comma-broken values without `/`"
abbrev pub no_slash : List ℕ → Bool
no_slash t = all (but 47) t

-- ".. the latter not beginning with a quote", and bare values with no quote first
abbrev pub no_quote_first : List ℕ → Bool
no_quote_first t = not (starts quote t)

-- "`translation`: bytes 33 to 126 without quotes, any length"
abbrev pub translation_kept : List ℕ → Bool
translation_kept v = all visible v && all (but 34) v

-- "Bare values that are not comma-broken: no CR or LF, no quote first, the line shorter than W"
unfoldable pub bare_kept : ℕ → List ℕ → List ℕ → Bool
bare_kept W k v = no_line_end v && (no_quote_first v && ltb (23 + length k + length v) W)

unfoldable pub value_kept : ℕ → List ℕ → List ℕ → Bool
value_kept W k v =
    pick (comma_key k) (no_slash v && no_quote_first v) (pick (bare_key k) (bare_kept W k v) (pick (same k (bytes "translation")) (translation_kept v)
    (lines_kept true W 21 (24 + length k) v)))

unfoldable pub qualifier_kept : ℕ → Qualifier → Bool
qualifier_kept W q = if_is (value_kept W q.key) q.value

unfoldable pub feature_kept : ℕ → Feature → Bool
feature_kept W f = kind_kept f.kind && (no_slash f.location && all (qualifier_kept W) f.qualifiers)

-- no keeping rule is broken; "CONTIG has no rule"
unfoldable pub keeps : ℕ → Bool → Bool → Table → Bool
keeps W truncate escape t =
    switches_kept truncate escape && (locus_kept t.locus && (header_texts (header_kept W) t && (all pubmed_kept t.references &&
    all (feature_kept W) t.features)))
