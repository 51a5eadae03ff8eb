-- The laws of the parts between header and ORIGIN: each answer by the answer of the part before.
use Prim.Native.Nat.{ℕ, ◌≤◌}
use native.Mathlib.Nat.{le_refl}
use mathlib.Core.Bool.{Bool, true, false}
use mathlib.Core.Path.{◌≡◌, refl, ap, subst}
use mathlib.Core.List.{List, []}
use lib.ListN.{length, drop, drop_of_length-le}
use Rattle.spec_format.specs.Bytes.{May, absent, is}
use Rattle.spec_format.specs.Readers.{Ans, got, no, cut, bind, optional, until}
use Rattle.spec_format.specs.Table.{Feature, Contig}
use Rattle.spec_format.specs.Features.{features_header, feature}
use Rattle.spec_format.specs.Deep.{deep_feature, deep_contig}
use Rattle.spec_format.specs.Record.{features, base_count, contig, list_of, Middle, middle, deep_in}
use Rattle.spec_loops.specs.Loops.{try_members_cut}
use Rattle.scan_bytes.specs.Views.{Emptied}
use Rattle.scan_bytes.specs.Sequence.{empty_places}
use Rattle.scan_bytes.specs.declared.Step.{Step}
use Rattle.scan_bytes.specs.declared.Step.TheVariants as step
use Rattle.read_field_optional.specs.declared.MayEntry.{MayEntry}
use Rattle.read_field_optional.specs.declared.MayEntryAt.{MayEntryAt}
use Rattle.read_field_optional.specs.declared.MayEntryAt.TheVariants as may_at
use Rattle.read_field_optional.specs.Fields.{MayKnown, MayEnter}
use Rattle.read_field_optional.specs.Knowing.{known_may, cut_may}
use Rattle.read_feature_table.specs.declared.Features.{Features}
use Rattle.read_feature_table.specs.Reads.{features_in, FeaturesRead}
use Rattle.read_contig.specs.declared.ContigAt.{ContigAt}
use Rattle.read_contig.specs.declared.ContigAt.TheVariants as contig'
use Rattle.read_contig.specs.Contigs.{contig_in, contig_as, ContigKnown, ContigReadAs, ContigRead}
use Rattle.read_record_middle.specs.declared.MiddleAt.{MiddleAt}
use Rattle.read_record_middle.specs.declared.MiddleAt.TheVariants as mid
use Rattle.read_record_middle.specs.Middles.{contig_part, deep_part, middle_from, deep_table, Middles}

-- ---- BASE COUNT and CONTIG

module _ (s : List ℕ) (at : ℕ) (r : MayEntryAt) (h : MayEnter s at false (optional (drop at s) (base_count (drop at s))) r) where
  pub count_cut : r ≡ may_at.Cut → ContigRead s (deep_part (drop at s)) (contig_part (drop at s)) contig'.Cut
  unfolding contig_part deep_part
  count_cut e = record { is = (rw (cut_may h e), rw (cut_may h e)) }

  module _ (entry : MayEntry) (n : ℕ) (e : r ≡ may_at.Got entry n) where
    known : MayKnown s at false (optional (drop at s) (base_count (drop at s))) entry n
    known = known_may h e

    pub count_within : n ≤ length s
    count_within = known.within

    pub count_then : (q : ContigAt) → ContigRead s (deep_contig (drop n s)) (optional (drop n s) (contig (drop n s))) q →
        ContigRead s (deep_part (drop at s)) (contig_part (drop at s)) q
    unfolding contig_part deep_part
    count_then q w = rw known.is w

pub ruleset counting = (count_cut, count_within, count_then)

-- ---- after the features

from_is : (fs : List Feature) (s : List ℕ) (c : May Contig) (r : List ℕ) → contig_part s ≡ got c r → middle_from fs s ≡ got (record { features = fs; contig = c }) r
unfolding middle_from
from_is fs s c r e = rw e

module _ (s : List ℕ) (at first : ℕ) (counts : Features) (r : ContigAt) (h : ContigRead s (deep_part (drop at s)) (contig_part (drop at s)) r) where
  read_as : (x : ContigAt) → r ≡ x → ContigReadAs s (deep_part (drop at s)) (contig_part (drop at s)) x
  read_as x e = subst (λ (x : ContigAt). ContigReadAs s (deep_part (drop at s)) (contig_part (drop at s)) x) e h.is

  pub from_deep : (fs : List Feature) → r ≡ contig'.Deep → Middles s (deep_part (drop at s)) (middle_from fs (drop at s)) mid.Deep
  from_deep fs e = record { is = read_as contig'.Deep e }

  pub from_cut : (fs : List Feature) → r ≡ contig'.Cut → Middles s (deep_part (drop at s)) (middle_from fs (drop at s)) mid.Cut
  unfolding middle_from
  from_cut fs e = let k = read_as contig'.Cut e in record { is = (k.0, rw k.1) }

  pub from_got : (entry : MayEntry) (rows n : ℕ) → r ≡ contig'.Got entry rows n → first ≤ length s → FeaturesRead s first (features_in (drop first s)) counts →
      Middles s (deep_part (drop at s)) (middle_from (features_in (drop first s)) (drop at s)) (mid.Got first counts entry rows n)
  from_got entry rows n e l w =
      let k : ContigKnown s (deep_part (drop at s)) (contig_part (drop at s)) entry rows n = read_as (contig'.Got entry rows n) e in
      record {
        is = record {
          shallow = k.shallow;
          is = from_is (features_in (drop first s)) (drop at s) (contig_as (contig_in s entry)) (drop n s) k.is;
          stands = record { tabled = l; read = w; contig = k.stands };
          within = k.within;
        };
      }

pub ruleset joining = (from_deep, from_cut, from_got)

-- ---- where the features of a table end

module _ (s : List ℕ) (at : ℕ) (o : Ans Middle) (b : Bool) (g : b ≡ deep_feature (drop at s)) where
  pub table_deep : b ≡ true → Middles s (deep_table (drop at s)) o mid.Deep
  table_deep e = record { is = rw (← g, e) }

  pub table_then : (q : MiddleAt) → b ≡ false → Middles s (deep_part (drop at s)) o q → Middles s (deep_table (drop at s)) o q
  table_then q e m = rw (← g, e) m

pub ruleset ending = (table_deep, table_then)

-- ---- the feature table, or none

bind_bind : {A B C : Type 0} (o : Ans A) (f : A → List ℕ → Ans B) (g : B → List ℕ → Ans C) → bind o (λ a s. bind (f a s) g) ≡ bind (bind o f) g
bind_bind (got a s) f g = refl
bind_bind no f g = refl
bind_bind cut f g = refl

middle_got : (s : List ℕ) (fs : May (List Feature)) (r : List ℕ) → optional s (features s) ≡ got fs r → middle s ≡ middle_from (list_of fs) r
unfolding middle middle_from contig_part
middle_got s fs r e =
    rw e (bind_bind (optional r (base_count r)) (λ _ z. optional z (contig z)) (λ c z. got (record { features = list_of fs; contig = c }) z))

deep_got : (s : List ℕ) (fs : List Feature) (r : List ℕ) → features s ≡ got fs r → deep_in s ≡ deep_table r
unfolding deep_in deep_part
deep_got s fs r e = rw e

cut_short : feature [] ≡ cut
unfolding feature until
cut_short = refl

-- at the slice's end no feature stands
none_there : (s : List ℕ) → features_in (drop (length s) s) ≡ []
none_there s = rw (drop_of_length-le s (le_refl (length s))) (try_members_cut feature [] cut_short)

module _ (s : List ℕ) (at : ℕ) (r : Step) (h : Emptied s at (features_header (drop at s)) r) where
  pub header_within : (n : ℕ) → r ≡ step.Got n → n ≤ length s
  header_within n e = (empty_places h e).1

  pub header_got : (n : ℕ) (counts : Features) (q : MiddleAt) → r ≡ step.Got n → FeaturesRead s n (features_in (drop n s)) counts →
      Middles s (deep_table (drop counts.next s)) (middle_from (features_in (drop n s)) (drop counts.next s)) q → Middles s (deep_in (drop at s)) (middle (drop at s)) q
  unfolding features
  header_got n counts q e w m =
      let k : features (drop at s) ≡ got (features_in (drop n s)) (drop counts.next s) = rw (← h.is, e) w.ended in
      rw (middle_got (drop at s) (is (features_in (drop n s))) (drop counts.next s) (ap (optional (drop at s)) k), deep_got (drop at s) _ _ k) m

  pub header_none : (q : MiddleAt) → r ≡ step.No → Middles s (deep_part (drop at s)) (middle_from (features_in (drop (length s) s)) (drop at s)) q →
      Middles s (deep_in (drop at s)) (middle (drop at s)) q
  unfolding features deep_in deep_part
  header_none q e m =
      let k : features (drop at s) ≡ no = rw (← h.is, e) in
      rw (middle_got (drop at s) absent (drop at s) (ap (optional (drop at s)) k), k) (rw (none_there s) at m)

  pub header_cut : r ≡ step.Cut → Middles s (deep_in (drop at s)) (middle (drop at s)) mid.Cut
  unfolding features middle deep_in
  header_cut e = let k : features (drop at s) ≡ cut = rw (← h.is, e) in record { is = (rw k, rw k) }

pub ruleset heading = (header_within, header_got, header_none, header_cut)
