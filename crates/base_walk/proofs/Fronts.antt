-- Of m elements that lie side by side the first n are lent, and the lender keeps the rest. It says nothing of the crate.
--     front, laid                          the first n of ys; and others in their place
--     front_long, front_room, laid_long    there are n, and room for them; and as many elements as before
--     Rest                                 what the lender keeps
--     cut                                  ys lie at (b, 0)  ⊢ the first n lie there, and the rest behind them
--     joined                               others, as many, and the rest  ⊢ all with these in their place lie at (b, 0)
--     whole_again                          the same ones, and the rest  ⊢ ys lie at (b, 0)
-- Assumes `Logic`.
use mathlib.Core.Path.{◌≡◌, refl, sym, subst, ◌∙◌}
use Prim.Native.Nat.{ℕ, ◌≤◌}
use mathlib.Core.List.{List, [], ◌∷◌, ◌++◌}
use lib.ListN.{length, take, drop, take-append-drop}
use seplogic.Ra.Ura.{Ura}
use base.Logic.{ent, sep}
use base.Fml.{Fml}
use types.Logic.{Logic, sem}
use types.Kit.{‵, ◌$◌, ◌∵◌, !, qed, by, use2, rewrite, done}
use types.SemTy.{cells}
use denote.RattleType.{RattleType}
use denote.Memory.{mem}
use denote.Slice.{Room}
use borrow.Rule.Array.Share.{Room-take}
use borrow.Table.Elements.{at, cut_app, join_app, same_len}
use lib.Seq.{length-take-le}

abbrev pub front : {X : Type 0} → ℕ → List X → List X
front n ys = take n ys

abbrev pub laid : {X : Type 0} → ℕ → List X → List X → List X
laid n zs ys = zs ++ drop n ys

module _ (R : RattleType) where
  abbrev pub Rest : ℕ → List R.Denot → ℕ → Fml
  Rest n ys b = cells (mem R) (drop n ys) b (at 0 (mem R).size (length (front n ys)))

  module _ (n m : ℕ) (h : n ≤ m) (ys : List R.Denot) (e : length ys ≡ m) where
    pub front_long : length (front n ys) ≡ n
    front_long = length-take-le n ys (subst (λ (k : ℕ). n ≤ k) (sym e) h)

    pub front_room : Room R m → Room R n
    front_room room = subst (Room R) front_long (Room-take R m n ys e room)

    pub laid_long : (zs : List R.Denot) → length zs ≡ n → length (laid n zs ys) ≡ m
    laid_long zs q = same_len n ys zs (q ∙ sym front_long) ∙ e

    module _ {M : Type 1} {𝓤 : Ura M} (𝓛 : Logic 𝓤) (b : ℕ) where
      pub cut : ent 𝓤 (sem 𝓛 (cells (mem R) ys b 0)) (sep 𝓤 (sem 𝓛 (cells (mem R) (front n ys) b 0)) (sem 𝓛 (Rest n ys b)))
      cut = qed 𝓛 (‵ (cells (mem R) ys b 0) ∷ []) ∵ rewrite ! 0 (λ (l : List R.Denot). ‵ (cells (mem R) l b 0)) (sym (take-append-drop n ys)) refl $ by ! (cut_app 𝓛 (mem R) (take n ys) (drop n ys) b 0)

      behind : (zs : List R.Denot) → length zs ≡ length (front n ys) → ent 𝓤 (sep 𝓤 (sem 𝓛 (cells (mem R) zs b 0)) (sem 𝓛 (Rest n ys b))) (sem 𝓛 (cells (mem R) (laid n zs ys) b 0))
      behind zs q =
          qed 𝓛 (‵ (cells (mem R) zs b 0) ∷ ‵ (Rest n ys b) ∷ []) ∵ rewrite ! 1 (λ (k : ℕ). ‵ (cells (mem R) (drop n ys) b (at 0 (mem R).size k))) (sym q) refl $
          use2 𝓛 (‵ (cells (mem R) (laid n zs ys) b 0)) (join_app 𝓛 (mem R) zs (drop n ys) b 0) $ done !

      pub joined : (zs : List R.Denot) → length zs ≡ n → ent 𝓤 (sep 𝓤 (sem 𝓛 (cells (mem R) zs b 0)) (sem 𝓛 (Rest n ys b))) (sem 𝓛 (cells (mem R) (laid n zs ys) b 0))
      joined zs q = behind zs (q ∙ sym front_long)

      pub whole_again : ent 𝓤 (sep 𝓤 (sem 𝓛 (cells (mem R) (front n ys) b 0)) (sem 𝓛 (Rest n ys b))) (sem 𝓛 (cells (mem R) ys b 0))
      whole_again =
          qed 𝓛 (‵ (cells (mem R) (front n ys) b 0) ∷ ‵ (Rest n ys b) ∷ []) ∵ use2 𝓛 (‵ (cells (mem R) (laid n (front n ys) ys) b 0)) (behind (front n ys) refl) $
          rewrite ! 0 (λ (l : List R.Denot). ‵ (cells (mem R) l b 0)) (take-append-drop n ys) refl $ done !
