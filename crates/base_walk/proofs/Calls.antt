-- The entries of a context around a call. It says nothing of the crate.
--     nest, splits         a nest of entries at the head, written in any way, is taken apart
--     asks_nothing         a goal P ∗ emp, as what a callee asks that requires nothing:   P is left
--     lands_at             what the callee's result owns shows its relation, and the result that lands is the machine value that its type spells
-- Assumes `Logic`.
use mathlib.Core.Path.{refl, ap, subst}
use mathlib.Core.List.{List, [], ◌∷◌, ◌++◌}
use seplogic.Ra.Ura.{Ura}
use mir.Syntax.{Place, Body}
use mir.Val.{Val}
use base.Logic.{SProp, ent, sep, emp, via, comm∗, assoc∗, mono_l, mono_r, snd∗, emp∗}
use base.Fml.{ftrue}
use prog.Wp.{Env, Calls, Loops}
use types.Logic.{Logic}
use types.Kit.{Item, Post, Goal, prop, lands, Seq, Step, step, ‵, ◌⊛◌, ⋆, mean, push, pop, drop, regoal, ◌$◌}
use denote.RattleType.{RattleType}
use denote.Laws.{Is, shows, Tells}
use denote.Steps.{only, peeks}

module _ {M : Type 1} {𝓤 : Ura M} (𝓛 : Logic 𝓤) where
  abbrev ◌∗◌ : SProp 𝓤 → SProp 𝓤 → SProp 𝓤
  P ∗ Q = sep 𝓤 P Q

  infixr 35 ◌∗◌
  abbrev pub nest : List (Item 𝓤) → Item 𝓤
  nest [] = ‵ ftrue
  nest (i ∷ is) = i ⊛ nest is

  apart⊢ : (is Γ : List (Item 𝓤)) → ent 𝓤 (mean 𝓛 (nest is) ∗ ⋆ 𝓛 Γ) (⋆ 𝓛 (is ++ Γ))
  apart⊢ [] Γ = snd∗ 𝓤 (emp 𝓤) (⋆ 𝓛 Γ)
  apart⊢ (i ∷ is) Γ =
      via 𝓤 (mean 𝓛 i ∗ (mean 𝓛 (nest is) ∗ ⋆ 𝓛 Γ)) (assoc∗ 𝓤 (mean 𝓛 i) (mean 𝓛 (nest is)) (⋆ 𝓛 Γ))
      (via 𝓤 (mean 𝓛 i ∗ ⋆ 𝓛 (is ++ Γ)) (mono_r 𝓤 (mean 𝓛 i) (apart⊢ is Γ)) (push 𝓛 i (is ++ Γ)))

module _ {M : Type 1} {𝓤 : Ura M} {𝓛 : Logic 𝓤} {K : Type 0} {Γ : List (Item 𝓤)} where
  -- the head is a nest of the entries, written in any way
  open 𝓛 use {H}

  pub splits : K → (is : List (Item 𝓤)) {i : Item 𝓤} {G : Goal 𝓤 H} → ent 𝓤 (mean 𝓛 i) (mean 𝓛 (nest 𝓛 is)) → Step K 𝓛 (is ++ Γ) G (i ∷ Γ) G
  splits t is {i} {G} h = step (λ s. record {
    prf = via 𝓤 (sep 𝓤 (mean 𝓛 i) (⋆ 𝓛 Γ)) (pop 𝓛 i Γ)
        (via 𝓤 (sep 𝓤 (mean 𝓛 (nest 𝓛 is)) (⋆ 𝓛 Γ)) (mono_l 𝓤 (⋆ 𝓛 Γ) h) (via 𝓤 (⋆ 𝓛 (is ++ Γ)) (apart⊢ 𝓛 is Γ) s.prf));
  })

  pub asks_nothing : K → {P : SProp 𝓤} → Step K 𝓛 Γ (prop P) Γ (prop (sep 𝓤 P (emp 𝓤)))
  asks_nothing t {P} = step (λ s. record { prf = via 𝓤 P s.prf (via 𝓤 (sep 𝓤 (emp 𝓤) P) (emp∗ 𝓤 P) (comm∗ 𝓤 (emp 𝓤) P)) })

  pub lands_at : {C : Calls 𝓤 H} {Λ : Loops 𝓤 H} {E : Env 𝓤 H} {d : Place} {rest : Body} {q : Post 𝓤 H} → K → (R : RattleType) (vals : R.Denot → List Val) → Tells R (Is R) vals → (r : R.Denot) (u : Val)
      → (Is R r (vals r) → Seq K 𝓛 Γ (lands C Λ E d (only (vals r)) rest q)) → Seq K 𝓛 (‵ (R.own_val r (u ∷ [])) ∷ Γ) (lands C Λ E d u rest q)
  lands_at {C = C} {Λ = Λ} {E = E} {d = d} {rest = rest} {q = q} t R vals tell r u k =
      peeks t R (Is R) (shows 𝓛 R) r (u ∷ []) (λ is. drop t $ regoal t (λ (y : Val). lands C Λ E d y rest q) (ap only (tell r (u ∷ []) is)) refl $ k (subst (Is R r) (tell r (u ∷ []) is) is))
