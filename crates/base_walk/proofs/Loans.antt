-- Slices and memory that a function lends to what it calls: the kit's loans of slices, put together. It says nothing of the crate.
--     Loan             a loan's lifetime and name
--     lends            own (the `&κ mut [T]` x) ∗ [κ]_q  ⊢ ⇛ ∃ n. [n] ∗ own (the `&n mut [T]` on the same elements) ∗ Kept n
--     returned         [n] ∗ Kept n ∗ finally n ys  ⊢ ⇛ (own (the `&κ mut [T]` at ys) ∗ [κ]_q)
--     shares           own (the `&κ mut [T]` x) ∗ [κ]_q  ⊢ ⇛ own (the `&κ [T]` on the same elements) ∗ finally x ∗ [κ]_q:   it is shared for all the time that it has left
--     lends_cells, shares_cells            given `Room`:  zs lie at (b, 0)  ⊢ ⇛ ∃ n. [n] ∗ own (the `&n mut [T]`, or the `&n [T]`, at zs) ∗ the lender's part
--     shares_cells_by                      the same where T holds `&mut`s, whose tokens are shown and come back
--     copy_shares                          a T that is Copy has those laws, at any lifetime
--     mut_cells_back, shr_cells_back       [n] ∗ the lender's part ∗ (finally n zs)  ⊢ ⇛ (zs lie at (b, 0))
-- Each slice x stands at a list of as many elements as it has at entry, which its machine value says. A `&` has no name, and is made by T's laws of sharing, `RowLaws` and `Shares`. Assumes `Logic`.
use mathlib.Core.Path.{◌≡◌, refl, sym, ap, subst, ◌∙◌}
use Prim.Native.Nat.{ℕ}
use mathlib.Core.List.{List, [], ◌∷◌}
use lib.ListN.{length}
use seplogic.Ra.Ura.{Ura}
use base.Fraction.{full_share}
use mir.Syntax.{Lifetime, erased}
use mir.Val.{Val}
use base.Logic.{ent, sep, ex, guard, emp, id⊢, via, comm∗, fst∗, emp∗}
use base.Fml.{Lft, GName, Share, Fml, flft, flent, Incl, Incl-refl, Incl-trans}
use contract.BorrowLft.{meet_⊑_left, meet_⊑_right}
use ghost.Rules.{Toks, span}
use types.Logic.{Logic, sem, lfts}
use types.Kit.{Item, mean, raw, use0, given, learn, check, ‵, ◌⊛◌, some, later, ◌$◌, ◌∵◌, !, qed, move, use1, use2, use3, drop, rewrite, split, pick, fsplit, fjoin, feq_l, feq_i, await, updating, now as at_once, show, done}
use types.SemTy.{cells, Arr}
use types.Tokens.{lft_new, lft_end}
use denote.RattleType.{RattleType, RowLaws}
use denote.Shares.{Shares}
use denote.Param.Laws.{IsCopy}
use denote.Memory.{mem}
use denote.Ref.{Bor, MutBor}
use denote.Slice.{slice_val, shr_slice_vals, mut_slice_vals, MutSlice, ShrSlice, Room, finally}
use denote.Lend.{Held, lends_slice, slice_back}
use borrow.Table.Owned as Bare
use borrow.Rule.Array.Rows.{parts_f}
use borrow.Rule.Array.Share.{share_cells, shared_back}
use borrow.Rule.Slice.Lend.{kept_f, sl_relend, sl_relent_backˡ}
use borrow.Rule.Slice.Handed.{sl_Share}

pub record Loan : Type 0 where
  pub life : ℕ
  pub name : GName

-- a token of a new lifetime beside others
at_one : (ν : ℕ) (ts : Toks) → Incl (span ((ν ∷ [], full_share) ∷ ts)) (ν ∷ [])
at_one ν [] = Incl-refl (ν ∷ [])
at_one ν (t ∷ ts) = meet_⊑_left (ν ∷ []) (span (t ∷ ts))

after_one : (ν : ℕ) (ts : Toks) → Incl (span ((ν ∷ [], full_share) ∷ ts)) (span ts)
after_one ν [] = meet_⊑_right (ν ∷ []) []
after_one ν (t ∷ ts) = meet_⊑_right (ν ∷ []) (span (t ∷ ts))

one_more : {M : Type 1} {𝓤 : Ura M} (𝓛 : Logic 𝓤) (ν : ℕ) (ts : Toks) → ent 𝓤 (sep 𝓤 (𝓛.A.lft (ν ∷ []) full_share) (lfts 𝓛 ts)) (lfts 𝓛 ((ν ∷ [], full_share) ∷ ts))
one_more {𝓤 = 𝓤} 𝓛 ν [] = fst∗ 𝓤 (𝓛.A.lft (ν ∷ []) full_share) (emp 𝓤)
one_more {𝓤 = 𝓤} 𝓛 ν (t ∷ ts) = id⊢ 𝓤 (sep 𝓤 (𝓛.A.lft (ν ∷ []) full_share) (lfts 𝓛 (t ∷ ts)))

one_less : {M : Type 1} {𝓤 : Ura M} (𝓛 : Logic 𝓤) (ν : ℕ) (ts : Toks) → ent 𝓤 (lfts 𝓛 ((ν ∷ [], full_share) ∷ ts)) (sep 𝓤 (𝓛.A.lft (ν ∷ []) full_share) (lfts 𝓛 ts))
one_less {𝓤 = 𝓤} 𝓛 ν [] = via 𝓤 (sep 𝓤 (emp 𝓤) (𝓛.A.lft (ν ∷ []) full_share)) (emp∗ 𝓤 (𝓛.A.lft (ν ∷ []) full_share)) (comm∗ 𝓤 (emp 𝓤) (𝓛.A.lft (ν ∷ []) full_share))
one_less {𝓤 = 𝓤} 𝓛 ν (t ∷ ts) = id⊢ 𝓤 (sep 𝓤 (𝓛.A.lft (ν ∷ []) full_share) (lfts 𝓛 (t ∷ ts)))

pub copy_shares : {M : Type 1} {𝓤 : Ura M} (𝓛 : Logic 𝓤) (R : RattleType) → IsCopy R → (κ : Lft) → RowLaws R × Shares 𝓛 R κ
copy_shares 𝓛 R c κ = (c.shr_laws, (c.copied _ _ 𝓛).shares full_share κ)

module _ (R : RattleType) where
  -- x under another name, at other elements
  abbrev pub again : MutBor (List R.Denot) → GName → List R.Denot → MutBor (List R.Denot)
  again x γ zs = record { ref_ptr = x.ref_ptr; ghost_name = γ; now = zs }

  -- x as a `&`, at other elements
  abbrev pub again_shr : MutBor (List R.Denot) → List R.Denot → Bor (List R.Denot)
  again_shr x zs = record { ref_ptr = x.ref_ptr; now = zs }

  module _ (x : MutBor (List R.Denot)) where
    -- the `&κ mut [T]` at the list zs; lent under a loan; what is kept meanwhile; and shared
    abbrev pub Own : Lifetime → Lft → List R.Denot → Fml
    Own ℓ κ zs = (MutSlice ℓ κ R).own_val (again x x.ghost_name zs) (mut_slice_vals x)

    abbrev pub Lent : Lifetime → List R.Denot → Loan → Fml
    Lent ℓ zs n = (MutSlice ℓ (n.life ∷ []) R).own_val (again x n.name zs) (mut_slice_vals x)

    abbrev pub Kept : {M : Type 1} {𝓤 : Ura M} (𝓛 : Logic 𝓤) → Lft → Share → List R.Denot → Loan → Item 𝓤
    Kept 𝓛 κ q zs n = kept_f 𝓛 R κ q (n.life ∷ []) x.ghost_name n.name zs x.ref_ptr.0 x.ref_ptr.1

    abbrev pub Shared : Lifetime → Lft → List R.Denot → Fml
    Shared ℓ κ zs = (ShrSlice ℓ κ R).own_val (again_shr x zs) (mut_slice_vals x)

    module _ {M : Type 1} {𝓤 : Ura M} (𝓛 : Logic 𝓤) (ℓ ℓ' : Lifetime) (κ : Lft) (q : Share) (zs : List R.Denot) (e : length zs ≡ length x.now) where
      open 𝓛 use {H, A}

      pub lends : ent 𝓤 (sep 𝓤 (sem 𝓛 (Own ℓ κ zs)) (A.lft κ q))
          (H.⇛ (ex 𝓤 (λ (n : Loan). sep 𝓤 (A.lft (n.life ∷ []) full_share) (sep 𝓤 (sem 𝓛 (Lent ℓ' zs n)) (mean 𝓛 (Kept 𝓛 κ q zs n))))))
      lends =
          qed 𝓛 (‵ (Own ℓ κ zs) ∷ ‵ (flft κ q) ∷ []) ∵ updating ! $ fsplit ! $ fsplit ! $ drop ! $ fjoin ! $ lft_new ! tt (λ ν. move ! (1 ∷ 2 ∷ []) $
          use2 𝓛 (later (some (λ (γ : GName). ‵ ((Bare.MutSlice erased (ν ∷ []) R).own_val (again x γ zs)) ⊛ Kept 𝓛 κ q zs (record { life = ν; name = γ })))) (sl_relend 𝓛 R κ q (ν ∷ []) x.ref_ptr.0 x.ref_ptr.1 x.ghost_name zs) $
          await ! tt $ pick ! (λ γ. split ! $
          -- [what the new slice owns; what is kept; ν's token]
          fsplit ! $ feq_i ! (List Val) (mut_slice_vals x) (mut_slice_vals (again x γ zs)) (ap (λ (m : ℕ). slice_val x.ref_ptr m ∷ []) (sym e)) $ fjoin ! $ fjoin ! $ move ! (2 ∷ 0 ∷ []) $ at_once ! $
          show ! (λ (n : Loan). sep 𝓤 (A.lft (n.life ∷ []) full_share) (sep 𝓤 (sem 𝓛 (Lent ℓ' zs n)) (mean 𝓛 (Kept 𝓛 κ q zs n)))) (record { life = ν; name = γ }) $ done !))

      pub returned : (n : Loan) (ys : List R.Denot) → ent 𝓤 (sep 𝓤 (A.lft (n.life ∷ []) full_share) (sep 𝓤 (mean 𝓛 (Kept 𝓛 κ q zs n)) (sem 𝓛 (finally R n.name ys))))
          (H.⇛ (sep 𝓤 (sem 𝓛 (Own ℓ κ ys)) (A.lft κ q)))
      returned n ys =
          qed 𝓛 (‵ (flft (n.life ∷ []) full_share) ∷ Kept 𝓛 κ q zs n ∷ ‵ (finally R n.name ys) ∷ []) ∵ updating ! $ lft_end ! tt $
          use3 𝓛 (later (given (length ys ≡ length zs) (‵ ((Bare.MutSlice erased κ R).own_val (again x x.ghost_name ys)) ⊛ ‵ (flft κ q)))) (sl_relent_backˡ 𝓛 R κ q (n.life ∷ []) x.ref_ptr.0 x.ref_ptr.1 x.ghost_name n.name zs ys) $
          await ! tt $ learn ! (λ e'. split ! $
          fsplit ! $ feq_i ! (List Val) (mut_slice_vals x) (mut_slice_vals (again x x.ghost_name ys)) (ap (λ (m : ℕ). slice_val x.ref_ptr m ∷ []) (sym (e' ∙ e))) $ fjoin ! $ fjoin ! $ at_once ! $ done !)

      pub shares : RowLaws R → Shares 𝓛 R κ → ent 𝓤 (sep 𝓤 (sem 𝓛 (Own ℓ κ zs)) (A.lft κ q)) (H.⇛ (sep 𝓤 (sem 𝓛 (Shared ℓ' κ zs)) (sep 𝓤 (sem 𝓛 (finally R x.ghost_name zs)) (A.lft κ q))))
      shares lwR sh =
          qed 𝓛 (‵ (Own ℓ κ zs) ∷ ‵ (flft κ q) ∷ []) ∵ updating ! $ fsplit ! $ fsplit ! $ drop ! $ fjoin ! $
          use2 𝓛 (later (‵ ((Bare.ShrSlice erased κ R).own_val (again_shr x zs)) ⊛ (‵ (finally R x.ghost_name zs) ⊛ ‵ (flft κ q)))) (sl_Share 𝓛 R x.ref_ptr.0 x.ref_ptr.1 x.ghost_name zs lwR κ q sh) $ await ! tt $ split ! $
          fsplit ! $ feq_i ! (List Val) (mut_slice_vals x) (shr_slice_vals (again_shr x zs)) (ap (λ (m : ℕ). slice_val x.ref_ptr m ∷ []) (sym e)) $ fjoin ! $ fjoin ! $ at_once ! $ done !

  -- ---- memory at the start of a block, for n elements
  abbrev pub placed : ℕ → GName → List R.Denot → MutBor (List R.Denot)
  placed b γ zs = record { ref_ptr = (b, 0); ghost_name = γ; now = zs }

  abbrev pub placed_shr : ℕ → List R.Denot → Bor (List R.Denot)
  placed_shr b zs = record { ref_ptr = (b, 0); now = zs }

  abbrev pub LentCells : Lifetime → ℕ → ℕ → List R.Denot → Loan → Fml
  LentCells ℓ b m ys n = (MutSlice ℓ (n.life ∷ []) R).own_val (placed b n.name ys) (slice_val (b, 0) m ∷ [])

  abbrev pub SharedCells : Lifetime → ℕ → ℕ → List R.Denot → ℕ → Fml
  SharedCells ℓ b m zs ν = (ShrSlice ℓ (ν ∷ []) R).own_val (placed_shr b zs) (slice_val (b, 0) m ∷ [])

  abbrev pub MineMut : ℕ → ℕ → Loan → Fml
  MineMut b m n = flent (n.life ∷ []) (Held R m b 0 n.name)

  abbrev pub MineShr : ℕ → List R.Denot → ℕ → Fml
  MineShr b zs ν = flent (ν ∷ []) (parts_f R zs b 0)

  module _ {M : Type 1} {𝓤 : Ura M} (𝓛 : Logic 𝓤) (ℓ : Lifetime) (b m : ℕ) (room : Room R m) where
    open 𝓛 use {H, A}

    pub lends_cells : (ys : List R.Denot) → length ys ≡ m
        → ent 𝓤 (sem 𝓛 (cells (mem R) ys b 0)) (H.⇛ (ex 𝓤 (λ (n : Loan). sep 𝓤 (A.lft (n.life ∷ []) full_share) (sep 𝓤 (sem 𝓛 (LentCells ℓ b m ys n)) (sem 𝓛 (MineMut b m n))))))
    lends_cells ys e =
        qed 𝓛 (‵ (cells (mem R) ys b 0) ∷ []) ∵ updating ! $ lft_new ! tt (λ ν. move ! (1 ∷ []) $
        use1 𝓛 (later (some (λ (γ : GName). ‵ ((MutSlice ℓ (ν ∷ []) R).own_val (placed b γ ys) (slice_val (b, 0) (length ys) ∷ [])) ⊛ ‵ (flent (ν ∷ []) (Held R (length ys) b 0 γ))))) (lends_slice 𝓛 R ℓ (ν ∷ []) ys b 0 (subst (Room R) (sym e) room)) $ await ! tt $ pick ! (λ γ. split ! $
        rewrite ! 0 (λ (k : ℕ). ‵ ((MutSlice ℓ (ν ∷ []) R).own_val (placed b γ ys) (slice_val (b, 0) k ∷ []))) e refl $ rewrite ! 1 (λ (k : ℕ). ‵ (flent (ν ∷ []) (Held R k b 0 γ))) e refl $ move ! (2 ∷ 0 ∷ []) $ at_once ! $
        show ! (λ (n : Loan). sep 𝓤 (A.lft (n.life ∷ []) full_share) (sep 𝓤 (sem 𝓛 (LentCells ℓ b m ys n)) (sem 𝓛 (MineMut b m n)))) (record { life = ν; name = γ }) $ done !))

    -- with tokens whose lifetimes' meet is within l, that of the `&mut`s that T holds
    pub shares_cells_by : RowLaws R → (l : Lft) → Shares 𝓛 R l → (ts : Toks) → Incl (span ts) l → (zs : List R.Denot) → length zs ≡ m
        → ent 𝓤 (sep 𝓤 (sem 𝓛 (cells (mem R) zs b 0)) (lfts 𝓛 ts)) (H.⇛ (ex 𝓤 (λ (ν : ℕ). sep 𝓤 (A.lft (ν ∷ []) full_share) (sep 𝓤 (sem 𝓛 (SharedCells ℓ b m zs ν)) (sep 𝓤 (sem 𝓛 (MineShr b zs ν)) (lfts 𝓛 ts))))))
    shares_cells_by lwR l sh ts inc zs e =
        qed 𝓛 (‵ (cells (mem R) zs b 0) ∷ raw (lfts 𝓛 ts) ∷ []) ∵ updating ! $ lft_new ! tt (λ ν. move ! (0 ∷ 2 ∷ []) $ use2 𝓛 (raw (lfts 𝓛 ((ν ∷ [], full_share) ∷ ts))) (one_more 𝓛 ν ts) $ move ! (1 ∷ 0 ∷ []) $
        use2 𝓛 (later ((‵ ((Bare.ShrSlice erased (ν ∷ []) R).own_val (placed_shr b zs)) ⊛ ‵ (flent (ν ∷ []) (parts_f R zs b 0))) ⊛ raw (lfts 𝓛 ((ν ∷ [], full_share) ∷ ts))))
        (share_cells 𝓛 R (ν ∷ []) b lwR l sh ((ν ∷ [], full_share) ∷ ts) (Incl-trans (after_one ν ts) inc) (at_one ν ts) zs 0 (subst (Room R) (sym e) room) 0) $ await ! tt $ split ! $ split ! $
        -- [what the slice owns; the lender's part; the tokens]
        fsplit ! $ feq_i ! (List Val) (slice_val (b, 0) m ∷ []) (shr_slice_vals (placed_shr b zs)) (ap (λ (k : ℕ). slice_val (b, 0) k ∷ []) (sym e)) $ fjoin ! $ fjoin ! $ move ! (2 ∷ []) $
        use1 𝓛 (‵ (flft (ν ∷ []) full_share) ⊛ raw (lfts 𝓛 ts)) (one_less 𝓛 ν ts) $ split ! $ move ! (0 ∷ 2 ∷ 3 ∷ 1 ∷ []) $ at_once ! $
        show ! (λ (k : ℕ). sep 𝓤 (A.lft (k ∷ []) full_share) (sep 𝓤 (sem 𝓛 (SharedCells ℓ b m zs k)) (sep 𝓤 (sem 𝓛 (MineShr b zs k)) (lfts 𝓛 ts)))) ν $ done !)

    -- with none, where T holds no `&mut`
    pub shares_cells : RowLaws R → Shares 𝓛 R [] → (zs : List R.Denot) → length zs ≡ m
        → ent 𝓤 (sem 𝓛 (cells (mem R) zs b 0)) (H.⇛ (ex 𝓤 (λ (ν : ℕ). sep 𝓤 (A.lft (ν ∷ []) full_share) (sep 𝓤 (sem 𝓛 (SharedCells ℓ b m zs ν)) (sem 𝓛 (MineShr b zs ν))))))
    shares_cells lwR sh zs e =
        qed 𝓛 (‵ (cells (mem R) zs b 0) ∷ []) ∵ updating ! $ use0 𝓛 (raw (lfts 𝓛 [])) (id⊢ 𝓤 (emp 𝓤)) $ move ! (1 ∷ 0 ∷ []) $
        use2 𝓛 (later (some (λ (ν : ℕ). ‵ (flft (ν ∷ []) full_share) ⊛ (‵ (SharedCells ℓ b m zs ν) ⊛ (‵ (MineShr b zs ν) ⊛ raw (lfts 𝓛 [])))))) (shares_cells_by lwR [] sh [] (Incl-refl []) zs e) $ await ! tt $ pick ! (λ ν. split ! $ move ! (1 ∷ []) $ split ! $ move ! (1 ∷ []) $ split ! $
        move ! (1 ∷ []) $ drop ! $ move ! (2 ∷ 1 ∷ 0 ∷ []) $ at_once ! $
        show ! (λ (k : ℕ). sep 𝓤 (A.lft (k ∷ []) full_share) (sep 𝓤 (sem 𝓛 (SharedCells ℓ b m zs k)) (sem 𝓛 (MineShr b zs k)))) ν $ done !)

    pub mut_cells_back : (k : Loan) (zs : List R.Denot) → ent 𝓤 (sep 𝓤 (A.lft (k.life ∷ []) full_share) (sep 𝓤 (sem 𝓛 (MineMut b m k)) (sem 𝓛 (finally R k.name zs))))
        (H.⇛ (guard 𝓤 (length zs ≡ m) (sem 𝓛 (cells (mem R) zs b 0))))
    mut_cells_back k zs =
        qed 𝓛 (‵ (flft (k.life ∷ []) full_share) ∷ ‵ (MineMut b m k) ∷ ‵ (finally R k.name zs) ∷ []) ∵ updating ! $ lft_end ! tt $
        use3 𝓛 (later (‵ ((Arr (mem R) m).own_at zs b 0))) (slice_back 𝓛 R (k.life ∷ []) k.name zs m b 0) $ await ! tt $ fsplit ! $ feq_l ! (λ e. at_once ! $ check ! e $ done !)

    pub shr_cells_back : (ν : ℕ) (zs : List R.Denot) → ent 𝓤 (sep 𝓤 (A.lft (ν ∷ []) full_share) (sem 𝓛 (MineShr b zs ν))) (H.⇛ (sem 𝓛 (cells (mem R) zs b 0)))
    shr_cells_back ν zs =
        qed 𝓛 (‵ (flft (ν ∷ []) full_share) ∷ ‵ (MineShr b zs ν) ∷ []) ∵ updating ! $ lft_end ! tt $
        use2 𝓛 (later (‵ (cells (mem R) zs b 0))) (shared_back 𝓛 R (ν ∷ []) b zs 0) $ await ! tt $ at_once ! $ done !
