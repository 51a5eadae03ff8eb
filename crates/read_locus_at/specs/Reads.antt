-- What reading a LOCUS line answers, and the parts that it is read in.
use Rattle.std.specs.Prelude.{ℕ, ◌≤◌, ◌<◌, ◌≡◌, List, length, drop}
use Rattle.spec_format.specs.Bytes.{not_blank}
use Rattle.spec_format.specs.Readers.{Ans, got, no, cut, bind, mapped, until1, line}
use Rattle.spec_format.specs.Table.{Locus}
use Rattle.spec_format.specs.Locus.{locus_line}
use Rattle.read_locus.specs.Plans.{planned, PlanEnds}
use Rattle.read_locus_at.specs.declared.LocusAt.{LocusAt}
use Rattle.read_locus_at.specs.declared.LocusAt.TheVariants as read

abbrev pub locus_rest : List ℕ → Ans Locus
locus_rest s = mapped locus_line (line s)

abbrev pub locus_gap : List ℕ → Ans Locus
locus_gap s = bind (until1 not_blank s) λ _ s. locus_rest s

abbrev pub locus_in : List ℕ → LocusAt → Ans Locus
locus_in s (read.Got plan next) = got (planned s plan) (drop next s)
locus_in s read.No = no
locus_in s read.Cut = cut

-- the line is not empty, and the plan's texts lie in the slice
abbrev pub LocusEnds : List ℕ → ℕ → LocusAt → Type 0
LocusEnds s at (read.Got plan next) = (at < next) × (next ≤ length s) × PlanEnds (length s) plan
LocusEnds s at read.No = Unit
LocusEnds s at read.Cut = Unit

pub record LocusRead (s : List ℕ) (at : ℕ) (o : Ans Locus) (r : LocusAt) : Type 0 where
  pub is : locus_in s r ≡ o
  pub place : LocusEnds s at r
