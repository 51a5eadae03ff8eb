-- What stands between the header and ORIGIN, in the parts that it is read in.
use Rattle.std.specs.Prelude.{ℕ, ◌≤◌, ◌≡◌, Bool, true, false, ◌||◌, List, length, drop}
use Rattle.spec_format.specs.Bytes.{May}
use Rattle.spec_format.specs.Readers.{Ans, got, cut, bind, optional}
use Rattle.spec_format.specs.Table.{Feature, Contig}
use Rattle.spec_format.specs.Deep.{deep_feature}
use Rattle.spec_format.specs.Record.{base_count, contig, Middle, deep_after_count}
use Rattle.read_field_optional.specs.declared.MayEntry.{MayEntry}
use Rattle.read_feature_table.specs.declared.Features.{Features}
use Rattle.read_feature_table.specs.Reads.{features_in, FeaturesRead}
use Rattle.read_contig.specs.Contigs.{contig_in, contig_as, ContigStands}
use Rattle.read_record_middle.specs.declared.MiddleAt.{MiddleAt}
use Rattle.read_record_middle.specs.declared.MiddleAt.TheVariants as mid

-- BASE COUNT and CONTIG, and number 14 of these
unfoldable pub contig_part : List ℕ → Ans (May Contig)
contig_part s = bind (optional s (base_count s)) λ _ s. optional s (contig s)

unfoldable pub deep_part : List ℕ → Bool
deep_part s = deep_after_count (optional s (base_count s))

-- the same after features that were read
unfoldable pub middle_from : List Feature → List ℕ → Ans Middle
middle_from fs s = bind (contig_part s) λ c s. got (record { features = fs; contig = c }) s

-- number 14 from where the features of a table end
abbrev pub deep_table : List ℕ → Bool
deep_table s = deep_feature s || deep_part s

-- the features from `first` on, and CONTIG
abbrev pub middle_in : List ℕ → ℕ → MayEntry → Middle
middle_in s first entry = record { features = features_in (drop first s); contig = contig_as (contig_in s entry) }

-- the features are counted, and CONTIG stands where its entry says
pub record MiddleStands (s : List ℕ) (first : ℕ) (counts : Features) (entry : MayEntry) (rows : ℕ) : Type 0 where
  pub tabled : first ≤ length s
  pub read : FeaturesRead s first (features_in (drop first s)) counts
  pub contig : ContigStands s entry rows

pub record MiddleKnown (s : List ℕ) (deep : Bool) (o : Ans Middle) (first : ℕ) (counts : Features) (entry : MayEntry) (rows next : ℕ) : Type 0 where
  pub shallow : deep ≡ false
  pub is : o ≡ got (middle_in s first entry) (drop next s)
  pub stands : MiddleStands s first counts entry rows
  pub within : next ≤ length s

abbrev pub MiddleAs : List ℕ → Bool → Ans Middle → MiddleAt → Type 0
MiddleAs s deep o (mid.Got first counts entry rows next) = MiddleKnown s deep o first counts entry rows next
MiddleAs s deep o mid.Cut = (deep ≡ false) × (o ≡ cut)
MiddleAs s deep o mid.Deep = deep ≡ true

pub record Middles (s : List ℕ) (deep : Bool) (o : Ans Middle) (r : MiddleAt) : Type 0 where
  pub is : MiddleAs s deep o r
