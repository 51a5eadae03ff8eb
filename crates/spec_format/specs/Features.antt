-- Reading, the feature table: feature_table.rs, with departure 3 for kinds and ticket 1 for locations.
use Rattle.std.specs.Prelude.{ℕ, ◌+◌, Bool, false, ◌&&◌, ◌||◌, not, List, [], ◌∷◌, ◌++◌, length, eqb}
use Rattle.spec_format.specs.Bytes.{pick, May, absent, is, bytes, spaces, some, starts, all, same, concat, visible, not_blank, space, slash}
use Rattle.spec_format.specs.Readers.{Ans, got, no, cut, bind, mapped, passing, or_else, tag, until1, spaces1, line, line_end, utf8_of, Turn, more, stop, loop, many0}
use Rattle.spec_format.specs.Table.{Qualifier, Feature}
use Rattle.spec_format.specs.Location.{locates, rows_in}

-- `features_header`: "a line of `FEATURES`, spaces or tabs, `Location/Qualifiers`"
unfoldable pub features_header : List ℕ → Ans (List ℕ)
features_header s =
    bind (tag (bytes "FEATURES") s) λ _ s. bind (until1 not_blank s) λ _ s. bind (tag (bytes "Location/Qualifiers") s) λ _ s. line_end s

-- ---- `qualifier_value_bare_bytes`: "A location or bare value runs over lines with that indent whose next byte is not `/`, joined by nothing"

-- `peek(none_of("/"))`, nom's complete form: no at the input's end
abbrev pub not_slash : List ℕ → Ans Unit
not_slash [] = no
not_slash (b ∷ s) = pick (eqb b 47) no (got tt (b ∷ s))

-- a further line where the indent and no `/` stand; a stray CR in it spoils the whole
abbrev pub bare_turn : List ℕ → Ans Unit → Ans (Turn (List ℕ))
bare_turn s (got u r) = mapped more (line r)
bare_turn s no = got stop s
bare_turn s cut = cut

abbrev pub bare_more : ℕ → List ℕ → Ans (Turn (List ℕ))
bare_more indent s = bare_turn s (bind (tag (spaces indent) s) λ _ r. not_slash r)

unfoldable pub bare : ℕ → List ℕ → Ans (List ℕ)
bare indent s = bind (line s) λ first s. bind (loop (bare_more indent) s) λ rest s. got (first ++ concat rest) s

-- ---- `qualifier_value_quoted`: "A quoted value turns `""` into one quote, also when a line end and indent stand between the two; line end and
-- indent give LF, but nothing in `translation`; it ends at a quote and a line end"

-- `qualifier_value_quoted_escape`
unfoldable pub escape : ℕ → List ℕ → Ans ℕ
escape indent s =
    or_else (mapped (λ _. 34) (tag (bytes "\"\"") s))
    (or_else (bind (tag (bytes "\"") s) λ _ s. bind (line_end s) λ _ s. bind (tag (spaces indent) s) λ _ s. mapped (λ _. 34) (tag (bytes "\"") s))
    (bind (line_end s) λ _ s. mapped (λ _. 10) (tag (spaces indent) s)))

-- what an escape stands for; `translation` has no line breaks
abbrev pub escaped : Bool → ℕ → List ℕ
escaped joined b = pick (joined && eqb b 10) [] (b ∷ [])

-- the closing quote and the line end, where no escape stands
abbrev pub quoted_end : Bool → List ℕ → Ans ℕ → Ans (Turn (List ℕ))
quoted_end joined s (got b r) = got (more (escaped joined b)) r
quoted_end joined s no = bind (tag (bytes "\"") s) λ _ r. mapped (λ _. stop) (line_end r)
quoted_end joined s cut = cut

abbrev pub special : ℕ → Bool
special b = eqb b 34 || (eqb b 13 || eqb b 10)

-- one byte more, an escape more, or the end
unfoldable pub quoted_turn : Bool → ℕ → List ℕ → Ans (Turn (List ℕ))
quoted_turn joined indent [] = cut
quoted_turn joined indent (b ∷ s) = pick (special b) (quoted_end joined (b ∷ s) (escape indent (b ∷ s))) (got (more (b ∷ [])) s)

unfoldable pub quoted : Bool → ℕ → List ℕ → Ans (List ℕ)
quoted joined indent s = bind (tag (bytes "\"") s) λ _ s. bind (loop (quoted_turn joined indent) s) λ parts s. got (concat parts) s

-- ---- qualifiers and features

-- "If the quoted reading fails, the bare one is tried"; "Texts must be UTF-8 after joining"
unfoldable pub value : ℕ → List ℕ → List ℕ → Ans (List ℕ)
value indent key s = or_else (utf8_of (quoted (same key (bytes "translation")) indent s)) (utf8_of (bare indent s))

abbrev pub key_end : ℕ → Bool
key_end b = eqb b 61 || (eqb b 13 || eqb b 10)

-- `qualifier_key`: "key (one or more bytes but `=`, CR, LF)", and UTF-8 as every text. Any such key is taken: there is no list of allowed keys (crates/spec_feature_names)
abbrev pub qualifier_key : List ℕ → Ans (List ℕ)
qualifier_key s = utf8_of (until1 key_end s)

-- "then a line end or `=` and a value"
unfoldable pub value_of : ℕ → List ℕ → List ℕ → Ans (May (List ℕ))
value_of indent key s = or_else (bind (tag (bytes "=") s) λ _ s. mapped is (value indent key s)) (mapped (λ _. absent) (line_end s))

-- `qualifier`: "A qualifier is indent, `/`, key .."
unfoldable pub qualifier : ℕ → List ℕ → Ans Qualifier
qualifier indent s =
    bind (tag (spaces indent) s) λ _ s. bind (tag (bytes "/") s) λ _ s. bind (qualifier_key s) λ key s.
    bind (value_of indent key s) λ value s. got (record { key = key; value = value }) s

-- departure 3: "kinds for number 11's bytes and first byte, any length"
abbrev pub kind_text : List ℕ → Bool
kind_text t = some t && (all visible t && not (starts slash t))

-- `feature_kind`, the bytes before the next space. Any such kind is taken: there is no list of allowed kinds
abbrev pub feature_kind : List ℕ → Ans (List ℕ)
feature_kind s = passing kind_text (until1 space s)

-- from the location on; ticket 1: "any other bad location is 7 or 2", so a feature whose location has no reading is not taken
unfoldable pub feature_from : ℕ → List ℕ → List ℕ → Ans Feature
feature_from indent kind s =
    bind (passing (locates false) (bare indent s)) λ location s. bind (many0 (qualifier indent) s) λ qualifiers s.
    got (record { kind = kind; location = location; qualifiers = qualifiers; rows = rows_in false location }) s

-- `feature`: "for each feature spaces, kind, spaces, location. All before the location is the feature's indent"
unfoldable pub feature : List ℕ → Ans Feature
feature s =
    bind (spaces1 s) λ before s. bind (feature_kind s) λ kind s. bind (spaces1 s) λ after s.
    feature_from (length before + length kind + length after) kind s
