-- A local array of n rows is its elements, side by side, and they are the array again; and a constant whose bound a proof shows, as an operand.
--     apart            the array's cell and what it owns  ⊢ ⌜ there are n ⌝, the elements lie side by side
--     together         where there are n, the elements that lie side by side  ⊢ the array's cell and what it owns
--     rows_shared      rows are Copy, so they meet what `Loans.antt` asks of elements that are lent as `&`, at any lifetime
--     big_lit          the operand `int_big w n`
-- Assumes `Logic`.
use mathlib.Core.Path.{◌≡◌}
use Prim.Native.Nat.{ℕ}
use mathlib.Core.List.{List, [], ◌∷◌}
use lib.ListN.{length}
use seplogic.Ra.Ura.{Ura}
use base.Fraction.{full_share}
use mir.Syntax.{Width, int_big, Ty, ty_array}
use mir.Val.{Val, Fits, vint}
use base.Logic.{ent, sep, guard, guard_i, via}
use base.Fml.{Lft, fsep, fat}
use prog.Wp.{Env}
use types.Logic.{Logic, sem}
use types.Kit.{Item, ‵, ◌$◌, ◌∵◌, !, qed, use1, join, check, fsplit, fjoin, fpick, fpack, feq_l, feq_i, done}
use types.Run.{Opd}
use types.SemTy.{cells}
use types.Share.{arr_parts}
use denote.RattleType.{RattleType, RowLaws}
use denote.Shares.{Shares}
use denote.Laws.{Is, shows}
use denote.Memory.{cell_at, part_at, part_of, mem, shares as in-shares}
use denote.Array.{Array, array_vals, Array-Tells}
use denote.ArrayMemory.{Array-apart, Array-whole}
use denote.Index.{row, whole_in, whole_out}
use denote.Steps.{only}
use denote.Struct.Laws as LL
use denote.Struct.Steps.{spelt}
use Rattle.base_walk.proofs.Loans.{copy_shares}
use Rattle.base_rows.specs.declared.Feature.{Feature}
use Rattle.base_rows.specs.contracts.Feature as T
use Rattle.base_rows.proofs.Feature.TheLaws as T'

abbrev vals : Feature → List Val
vals = LL.vals T.the_type T'.the_laws

abbrev pub many_val : List Feature → Val
many_val zs = only (array_vals vals zs)

module _ (n : ℕ) where
  abbrev pub Many : RattleType
  Many = Array T.the_row n

  abbrev many : Ty
  many = ty_array T'.mir n

  module _ {M : Type 1} {𝓤 : Ura M} (𝓛 : Logic 𝓤) (l : ℕ) where
    pub apart : (r : List Feature) (u : Val) → ent 𝓤 (sep 𝓤 (sem 𝓛 (fat full_share many l 0 u)) (sem 𝓛 (Many.own_val r (u ∷ [])))) (guard 𝓤 (length r ≡ n) (sem 𝓛 (cells (mem T.the_row) r l 0)))
    unfolding part_of
    apart r u =
        qed 𝓛 (‵ (fat full_share many l 0 u) ∷ ‵ (Many.own_val r (u ∷ [])) ∷ []) ∵ use1 𝓛 (‵ (cell_at full_share Many.mir (u ∷ []) l 0)) (𝓛.laws.at_raw full_share many l 0 u) $ fjoin ! $
        fpack ! (List Val) (λ vs. fsep (cell_at full_share Many.mir vs l 0) (Many.own_val r vs)) (u ∷ []) $
        use1 𝓛 (‵ ((arr_parts (in-shares T.the_row) n).part full_share r l 0)) (Array-apart 𝓛 T.the_row full_share tt n r l 0) $ fsplit ! $ feq_l ! (λ e.
        use1 𝓛 (‵ (cells (mem T.the_row) r l 0)) (whole_in 𝓛 T.the_row r l 0) $ check ! e $ done !)

    pub together : (zs : List Feature) → length zs ≡ n → ent 𝓤 (sem 𝓛 (cells (mem T.the_row) zs l 0)) (sep 𝓤 (sem 𝓛 (fat full_share many l 0 (many_val zs))) (sem 𝓛 (Many.own_val zs (array_vals vals zs))))
    unfolding part_of
    together zs e =
        qed 𝓛 (‵ (cells (mem T.the_row) zs l 0) ∷ []) ∵ use1 𝓛 (‵ (row T.the_row full_share zs l 0)) (whole_out 𝓛 T.the_row zs l 0) $ feq_i ! ℕ (length zs) n e $ fjoin ! $
        use1 𝓛 (‵ (part_at Many full_share zs l 0)) (Array-whole 𝓛 T.the_row full_share n zs l 0) $ fpick ! (λ vs. fsplit ! $
        spelt ! Many (Is Many) (shows 𝓛 Many) (array_vals vals) (Array-Tells T.the_row vals (LL.tells T.the_type T'.the_laws) n) full_share zs vs l 0 $
        use1 𝓛 (‵ (fat full_share many l 0 (many_val zs))) (𝓛.laws.raw_at full_share many l 0 (many_val zs)) $ join ! $ done !)

pub rows_shared : {M : Type 1} {𝓤 : Ura M} (𝓛 : Logic 𝓤) (κ : Lft) → RowLaws T.the_row × Shares 𝓛 T.the_row κ
rows_shared 𝓛 κ = copy_shares 𝓛 T.the_row T'.the_row_copy κ

module _ {M : Type 1} {𝓤 : Ura M} {𝓛 : Logic 𝓤} {K : Type 0} {Γ : List (Item 𝓤)} {E : Env 𝓤 𝓛.H} where
  pub big_lit : K → {w : Width} {n : ℕ} → Fits w n → Opd K 𝓛 Γ E (int_big w n) (vint w n)
  big_lit t {w} {n} z = record { go = λ Kt h. via 𝓤 (Kt (vint w n)) h (guard_i 𝓤 (Fits w n) (Kt (vint w n)) z) }
