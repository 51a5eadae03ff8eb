-- The loop over qualifiers, one turn at a time: what was counted and what is still to come are the whole. Assumes nothing.
use Rattle.std.specs.Prelude.{ℕ, ◌+◌, ◌-◌, ◌≤◌, ◌<◌, ◌≡◌, refl, Bool, List, [], ◌∷◌, length, drop}
use Rattle.std.proofs.Common.{ap, subst, ◌∙◌, arith}
use Rattle.spec_format.specs.Table.{Qualifier}
use Rattle.spec_format.specs.Readers.{got, cut, fit_turn, members, end}
use Rattle.spec_format.specs.Features.{qualifier}
use Rattle.spec_loops.specs.Loops.{fit_members_stop, fit_members_cut, fit_end_stop, fit_end_cut}
use Rattle.spec_loops.proofs.Loops.{fit_members_more, fit_end_more}
use Rattle.spec_loops.proofs.Shrinks.{qualifier_small}
use Rattle.read_feature_qualifiers.specs.declared.ValueAt.{ValueAt}
use Rattle.read_feature_qualifiers.specs.declared.QualifierAt.{QualifierAt}
use Rattle.read_feature_qualifiers.specs.declared.QualifierAt.TheVariants as one
use Rattle.read_feature_qualifiers.specs.Reads.{qualifier_in, QualifierKnown, QualifierAs, QualifierRead}

-- the qualifiers from a place of the slice on
abbrev pub qualifiers_in : List ℕ → ℕ → ℕ → List Qualifier
qualifiers_in s indent i = members (fit_turn (qualifier indent)) (drop i s)

-- `count` qualifiers stand from `at` up to i
pub record Reached (s : List ℕ) (at indent i count : ℕ) : Type 0 where
  pub within : i ≤ length s
  pub few : count + at ≤ i
  pub counts : length (qualifiers_in s indent at) ≡ count + length (qualifiers_in s indent i)
  pub ends : end (fit_turn (qualifier indent)) (drop at s) ≡ end (fit_turn (qualifier indent)) (drop i s)

module _ (s : List ℕ) (at indent : ℕ) where
  pub reached_none : at ≤ length s → Reached s at indent at 0
  reached_none h = record { within = h; few = omega arith; counts = omega arith; ends = refl }

  module _ (i count : ℕ) (r : QualifierAt) (h : QualifierRead s i indent (qualifier indent (drop i s)) r) where
    read_is : (x : QualifierAt) → r ≡ x → QualifierAs s i indent (qualifier indent (drop i s)) x
    read_is x e = subst (λ (x : QualifierAt). QualifierAs s i indent (qualifier indent (drop i s)) x) e h.is

    module _ (first stop : ℕ) (joined : Bool) (v : ValueAt) (bytes next : ℕ) (e : r ≡ one.Got first stop joined v bytes next) where
      pub known : QualifierKnown s i indent (qualifier indent (drop i s)) first stop joined v bytes next
      known = read_is (one.Got first stop joined v bytes next) e

      pub one_more : qualifiers_in s indent i ≡ qualifier_in s indent first stop joined v ∷ qualifiers_in s indent next
      one_more = fit_members_more (qualifier indent) (qualifier_small indent) (drop i s) (qualifier_in s indent first stop joined v) (drop next s) known.is

      pub reached_more : Reached s at indent i count → Reached s at indent next (count + 1)
      reached_more g =
          let k = known in
          let a = k.small in let d = g.few in let u = g.counts in
          let c : length (qualifiers_in s indent i) ≡ length (qualifier_in s indent first stop joined v ∷ qualifiers_in s indent next) = ap length one_more in
          record {
            within = k.within;
            few = omega arith;
            counts = omega arith;
            ends = g.ends ∙ fit_end_more (qualifier indent) (qualifier_small indent) (drop i s) (qualifier_in s indent first stop joined v) (drop next s) k.is;
          }

      pub reached_less : length s - next < length s - i
      reached_less = let k = known in let a = k.small in let b = k.within in omega arith

      pub count_fits : Reached s at indent i count → count + 1 ≤ length s
      count_fits g = let k = known in let a = k.small in let b = k.within in let d = g.few in omega arith

    pub none_stop : r ≡ one.No → qualifiers_in s indent i ≡ []
    none_stop e = fit_members_stop (qualifier indent) (drop i s) (read_is one.No e)

    pub none_cut : r ≡ one.Cut → qualifiers_in s indent i ≡ []
    none_cut e = fit_members_cut (qualifier indent) (drop i s) (read_is one.Cut e)

    pub reached_stop : Reached s at indent i count → r ≡ one.No → end (fit_turn (qualifier indent)) (drop at s) ≡ got tt (drop i s)
    reached_stop g e = g.ends ∙ fit_end_stop (qualifier indent) (drop i s) (read_is one.No e)

    pub reached_cut : Reached s at indent i count → r ≡ one.Cut → end (fit_turn (qualifier indent)) (drop at s) ≡ cut
    reached_cut g e = g.ends ∙ fit_end_cut (qualifier indent) (drop i s) (read_is one.Cut e)

    reached_all : qualifiers_in s indent i ≡ [] → Reached s at indent i count → count ≡ length (qualifiers_in s indent at)
    reached_all m g = let c : length (qualifiers_in s indent i) ≡ 0 = ap length m in let u = g.counts in omega arith

    pub all_stop : Reached s at indent i count → r ≡ one.No → count ≡ length (qualifiers_in s indent at)
    all_stop g e = reached_all (none_stop e) g

    pub all_cut : Reached s at indent i count → r ≡ one.Cut → count ≡ length (qualifiers_in s indent at)
    all_cut g e = reached_all (none_cut e) g
