-- What the plan of a LOCUS line stands for, and what its makers promise.
use Rattle.std.specs.Prelude.{ℕ, ◌≡◌, Bool, true, false, List, ◌∷◌, length, Option, Some, None}
use Rattle.spec_format.specs.Bytes.{pick, May, absent, is, bytes, same}
use Rattle.spec_format.specs.Table.{Locus}
use Rattle.spec_format.specs.Locus.{unknown, locus_from}
use Rattle.spec_format.specs.declared.Span.{Span}
use Rattle.spec_format.specs.declared.Date.{Date}
use Rattle.read_locus_tokens.specs.Parts.{spanned, Ends}
use Rattle.read_locus.specs.declared.LocusPlan.{LocusPlan}
use Rattle.read_locus.specs.declared.LocusPlan.TheVariants as plan

abbrev pub text_in : List ℕ → Option Span → May (List ℕ)
text_in s None = absent
text_in s (Some x) = is (spanned s x)

-- the LOCUS values whose texts lie in the slice s
abbrev pub planned : List ℕ → LocusPlan → Locus
planned s plan.Unknown = unknown
planned s (plan.Known name length molecule circular division date) =
    record { name = is (spanned s name); length = is length; molecule = text_in s molecule; circular = circular; division = spanned s division; date = Some date }

abbrev pub TextEnds : ℕ → Option Span → Type 0
TextEnds to None = Unit
TextEnds to (Some x) = Ends to x

abbrev pub PlanEnds : ℕ → LocusPlan → Type 0
PlanEnds to plan.Unknown = Unit
PlanEnds to (plan.Known name length molecule circular division date) = Ends to name × (TextEnds to molecule × Ends to division)

-- the values of a definition, with texts in the slice
pub record Planned (s : List ℕ) (o : Locus) (r : LocusPlan) : Type 0 where
  pub is : planned s r ≡ o
  pub within : PlanEnds (length s) r

-- tokens that were taken already, before others
abbrev pub three_then : List ℕ → Span → Span → Span → List (List ℕ) → List (List ℕ)
three_then s name count unit ts = spanned s name ∷ spanned s count ∷ spanned s unit ∷ ts

abbrev pub six_then : List ℕ → Span → Span → Span → Span → Span → Span → List (List ℕ) → List (List ℕ)
six_then s name count unit third fourth fifth ts = three_then s name count unit (spanned s third ∷ spanned s fourth ∷ spanned s fifth ∷ ts)

abbrev pub ThreeEnd : ℕ → Span → Span → Span → Type 0
ThreeEnd to name count unit = Ends to name × (Ends to count × Ends to unit)

abbrev pub SixEnd : ℕ → Span → Span → Span → Span → Span → Span → Type 0
SixEnd to name count unit third fourth fifth = ThreeEnd to name count unit × ThreeEnd to third fourth fifth

abbrev pub FieldsEnd : ℕ → Span → Span → Span → Option Span → Span → Span → Span → Type 0
FieldsEnd to name count unit molecule topology division date = ThreeEnd to name count unit × (TextEnds to molecule × ThreeEnd to topology division date)

abbrev pub fields_locus : List ℕ → Span → Span → Span → Option Span → Span → Span → Span → Locus
fields_locus s name count unit molecule topology division date =
    locus_from (spanned s name) (spanned s count) (spanned s unit) (text_in s molecule) (spanned s topology) (spanned s division) (spanned s date)

-- the values of a line, by its topology
abbrev pub shaped_locus : List ℕ → Span → ℕ → Option Span → Span → Span → Date → Locus
shaped_locus s name n molecule topology division date =
    pick (same (spanned s topology) (bytes "circular")) (found true) (pick (same (spanned s topology) (bytes "linear")) (found false) unknown)
  where
    found : Bool → Locus
    found circular =
        record { name = is (spanned s name); length = is n; molecule = text_in s molecule; circular = circular; division = spanned s division; date = Some date }
