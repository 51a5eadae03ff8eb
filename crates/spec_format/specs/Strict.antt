-- The strict switch (document 02, ticket 7): "the reader refuses a letter without an IUPAC code", by number 16.
use Rattle.std.specs.Prelude.{ℕ, Bool, true, false, List, [], ◌∷◌}
use Rattle.spec_bases.specs.Bases.{coded}
use Rattle.spec_format.specs.Bytes.{pick, May, absent, is, letter, all}
use Rattle.spec_format.specs.Readers.{Ans, got, no, cut, bind, while_fits}
use Rattle.spec_format.specs.Table.{Table}
use Rattle.spec_format.specs.Locus.{preamble, locus}
use Rattle.spec_format.specs.Header.{Field, header_field}
use Rattle.spec_format.specs.Origin.{origin_tag, skipped}
use Rattle.spec_format.specs.Record.{Outcome, not_read, middle, deep_in, once, read_record, placed}
use Rattle.spec_format.specs.declared.Unread.TheVariants as unread

-- "in file order at the same standing as 9, hence before 8": what stands from the first letter without a code on, if neither the `/` nor a byte that is 9 stands before it
unfoldable pub stray : List ℕ → May (List ℕ)
stray [] = absent
stray (b ∷ s) = elim (letter b) [ true ↦ elim (coded b) [ true ↦ stray s | false ↦ is (b ∷ s) ] | false ↦ elim (skipped b) [ true ↦ stray s | false ↦ absent ] ]

-- what stands where the letters begin, after ORIGIN's line, if the reading of a record comes so far: from its sections on, from its header's end on, and from its start on
abbrev pub letters_below : List ℕ → Ans (List ℕ)
letters_below s = pick (deep_in s) no (bind (middle s) λ _ s. origin_tag s)

abbrev pub letters_after : List Field → List ℕ → Ans (List ℕ)
letters_after fs s = pick (once fs) (letters_below s) no

unfoldable pub letters_from : List ℕ → Ans (List ℕ)
letters_from s = bind (preamble s) λ _ s. bind (locus s) λ _ s. bind (while_fits header_field s) letters_after

-- the stray letter of a record
abbrev pub stray_after : Ans (List ℕ) → May (List ℕ)
stray_after (got u s) = stray s
stray_after no = absent
stray_after cut = absent

abbrev pub stray_in : List ℕ → May (List ℕ)
stray_in s = stray_after (letters_from s)

-- 16 with the switch on, ahead of what is answered without it
abbrev pub strictly : Bool → May (List ℕ) → Outcome → Outcome
strictly false x o = o
strictly true absent o = o
strictly true (is r) o = not_read unread.StrayLetter

unfoldable pub record_by : Bool → List ℕ → Outcome
record_by strict s = strictly strict (stray_in s) (read_record s)

-- THE READING of a slice at a place: with the switch off, `read_at`
unfoldable pub read_by : Bool → List ℕ → ℕ → Outcome
read_by strict s at = placed (record_by strict) s at

-- "tables whose letters all have codes", where the switch is on
abbrev pub letters_fit : Bool → Table → Bool
letters_fit false t = true
letters_fit true t = all coded t.letters
