-- The locals of a function that a walk goes through. They stand in its context one by one, in their order, and behind them, as one entry, what is owed when they are freed. It says nothing of the crate.
--     locals E cs Γ        each local of E holds what stands in cs at its number; one that is away, since it is lent, has no entry
--     Dies E               what is owed of all locals
--     allocs_all           all locals are allocated.        frees_all        all are freed, whatever they hold, with Δ before them in the context
--     is_true, is_false    what a branch knows of its test
-- Assumes `Logic`.
use mathlib.Core.Path.{◌≡◌, refl}
use mathlib.Core.Bool.{Bool, true, false, not}
use mathlib.Core.List.{List, [], ◌∷◌, ◌++◌}
use lib.Dec.{T}
use Prim.Native.Nat.{ℕ}
use seplogic.Ra.Ura.{Ura}
use base.Fraction.{full_share}
use mir.Syntax.{Local}
use mir.Val.{Val}
use base.Logic.{SProp, ent, sep, emp, via, assoc∗, assoc', mono_l, mono_r, mono∗, snd∗, emp∗, wand_i, all_i}
use base.Fml.{fat, froom}
use prog.Wp.{Env, alloc, release, ty_of}
use types.Logic.{Logic}
use types.Kit.{Item, Goal, prop, Seq, allocs, frees, aim, ‵, raw, ◌⊛◌, ⋆, push, pop, ⊢++, ◌$◌, ◌∵◌, !, qed, move, split, join, frame, done}

pub is_true : (y : Bool) → T y → y ≡ true
is_true true h = refl
is_true false h = absurd h

pub is_false : (y : Bool) → T (not y) → y ≡ false
is_false true h = absurd h
is_false false h = refl

pub data Cell : Type 0 where
  vacant : Cell
  away : Cell
  holds : Val → Cell

-- the blocks of the locals
abbrev pub Blocks : List Local → Type 0
Blocks [] = Unit {0}
Blocks (l ∷ ls) = ℕ × Blocks ls

-- something of all blocks, with each block as an argument of its own
abbrev pub Every : (ls : List Local) → (Blocks ls → Type 1) → Type 1
Every [] P = P tt
Every (l ∷ ls) P = (b : ℕ) → Every ls (λ ns. P (b, ns))

at_all : (ls : List Local) (P : Blocks ls → Type 1) → Every ls P → (ns : Blocks ls) → P ns
at_all [] P k ns = k
at_all (l ∷ ls) P k ns = at_all ls (λ ms. P (ns.0, ms)) (k ns.0) ns.1

module _ {M : Type 1} {𝓤 : Ura M} (𝓛 : Logic 𝓤) where
  open 𝓛 use {H}

  abbrev Pr : Type 2
  Pr = SProp 𝓤

  abbrev ◌∗◌ : Pr → Pr → Pr
  P ∗ Q = sep 𝓤 P Q

  infixr 35 ◌∗◌
  abbrev pub env : (ls : List Local) → Blocks ls → Env 𝓤 H
  env [] ns = []
  env (l ∷ ls) ns = (ty_of 𝓤 H l, ns.0) ∷ env ls ns.1

  abbrev pub locals : Env 𝓤 H → List Cell → List (Item 𝓤) → List (Item 𝓤)
  locals [] cs Γ = Γ
  locals (e ∷ E) [] Γ = Γ
  locals (e ∷ E) (vacant ∷ cs) Γ = ‵ (froom e.0 e.1 0) ∷ locals E cs Γ
  locals (e ∷ E) (away ∷ cs) Γ = locals E cs Γ
  locals (e ∷ E) (holds v ∷ cs) Γ = ‵ (fat full_share e.0 e.1 0 v) ∷ locals E cs Γ

  -- each local has its entry
  abbrev pub Home : Env 𝓤 H → List Cell → Type 0
  Home [] cs = Unit {0}
  Home (e ∷ E) [] = ⊥
  Home (e ∷ E) (vacant ∷ cs) = Home E cs
  Home (e ∷ E) (away ∷ cs) = ⊥
  Home (e ∷ E) (holds v ∷ cs) = Home E cs

  abbrev pub none_set : Env 𝓤 H → List Cell
  none_set [] = []
  none_set (e ∷ E) = vacant ∷ none_set E

  abbrev Rooms : Env 𝓤 H → Pr
  Rooms [] = emp 𝓤
  Rooms (e ∷ E) = H.room e.0 e.1 0 ∗ Rooms E

  abbrev pub Dies : Env 𝓤 H → Pr
  Dies [] = emp 𝓤
  Dies (e ∷ E) = H.dies e.0 e.1 ∗ Dies E

  in⊢ : (E : Env 𝓤 H) (Γ : List (Item 𝓤)) → ent 𝓤 (Rooms E ∗ ⋆ 𝓛 Γ) (⋆ 𝓛 (locals E (none_set E) Γ))
  in⊢ [] Γ = snd∗ 𝓤 (emp 𝓤) (⋆ 𝓛 Γ)
  in⊢ (e ∷ E) Γ =
      let r : Pr = H.room e.0 e.1 0 in
      via 𝓤 (r ∗ (Rooms E ∗ ⋆ 𝓛 Γ)) (assoc∗ 𝓤 r (Rooms E) (⋆ 𝓛 Γ))
      (via 𝓤 (r ∗ ⋆ 𝓛 (locals E (none_set E) Γ)) (mono_r 𝓤 r (in⊢ E Γ)) (push 𝓛 (‵ (froom e.0 e.1 0)) (locals E (none_set E) Γ)))

  module _ where
    alloc⊢ : (ls : List Local) (P : Pr) (Q : Env 𝓤 H → Pr) → ((ns : Blocks ls) → ent 𝓤 (Rooms (env ls ns) ∗ (Dies (env ls ns) ∗ P)) (Q (env ls ns))) → ent 𝓤 P (alloc 𝓤 H ls Q)
    alloc⊢ [] P Q k = via 𝓤 (emp 𝓤 ∗ P) (emp∗ 𝓤 P) (via 𝓤 (emp 𝓤 ∗ (emp 𝓤 ∗ P)) (emp∗ 𝓤 (emp 𝓤 ∗ P)) (k tt))
    alloc⊢ (l ∷ ls) P Q k = all_i 𝓤 _ (λ b.
        let r : Pr = H.room (ty_of 𝓤 H l) b 0 in
        let d : Pr = H.dies (ty_of 𝓤 H l) b in
        wand_i 𝓤 P (r ∗ d) (alloc 𝓤 H ls (λ E. Q ((ty_of 𝓤 H l, b) ∷ E))) (alloc⊢ ls (P ∗ (r ∗ d)) (λ E. Q ((ty_of 𝓤 H l, b) ∷ E)) (λ ns.
        via 𝓤 ((r ∗ Rooms (env ls ns)) ∗ ((d ∗ Dies (env ls ns)) ∗ P))
        (qed 𝓛 (raw (Rooms (env ls ns)) ∷ raw (Dies (env ls ns)) ∷ raw P ∷ raw r ∷ raw d ∷ []) ∵ move ! (3 ∷ 0 ∷ []) $ join ! $ frame ! $ move ! (2 ∷ 0 ∷ []) $ join ! $ done !)
        (k (b, ns)))))

    out⊢ : (E : Env 𝓤 H) (cs : List Cell) → Home E cs → (Γ : List (Item 𝓤)) → ent 𝓤 (⋆ 𝓛 (locals E cs Γ)) (Rooms E ∗ ⋆ 𝓛 Γ)
    out⊢ [] cs h Γ = emp∗ 𝓤 (⋆ 𝓛 Γ)
    out⊢ (e ∷ E) [] h Γ = absurd h
    out⊢ (e ∷ E) (away ∷ cs) h Γ = absurd h
    out⊢ (e ∷ E) (vacant ∷ cs) h Γ =
        let r : Pr = H.room e.0 e.1 0 in
        via 𝓤 (r ∗ ⋆ 𝓛 (locals E cs Γ)) (pop 𝓛 (‵ (froom e.0 e.1 0)) (locals E cs Γ))
        (via 𝓤 (r ∗ (Rooms E ∗ ⋆ 𝓛 Γ)) (mono_r 𝓤 r (out⊢ E cs h Γ)) (assoc' 𝓤 r (Rooms E) (⋆ 𝓛 Γ)))
    out⊢ (e ∷ E) (holds v ∷ cs) h Γ =
        let r : Pr = H.room e.0 e.1 0 in
        let c : Pr = H.at full_share e.0 e.1 0 v in
        via 𝓤 (c ∗ ⋆ 𝓛 (locals E cs Γ)) (pop 𝓛 (‵ (fat full_share e.0 e.1 0 v)) (locals E cs Γ))
        (via 𝓤 (r ∗ ⋆ 𝓛 (locals E cs Γ)) (mono_l 𝓤 (⋆ 𝓛 (locals E cs Γ)) (𝓛.laws.at_room e.0 e.1 0 v))
        (via 𝓤 (r ∗ (Rooms E ∗ ⋆ 𝓛 Γ)) (mono_r 𝓤 r (out⊢ E cs h Γ)) (assoc' 𝓤 r (Rooms E) (⋆ 𝓛 Γ))))

    release⊢ : (E : Env 𝓤 H) (P : Pr) → ent 𝓤 (Rooms E ∗ (Dies E ∗ P)) (release 𝓤 H E P)
    release⊢ [] P = via 𝓤 (emp 𝓤 ∗ P) (snd∗ 𝓤 (emp 𝓤) (emp 𝓤 ∗ P)) (snd∗ 𝓤 (emp 𝓤) P)
    release⊢ (e ∷ E) P =
        let r : Pr = H.room e.0 e.1 0 in
        let d : Pr = H.dies e.0 e.1 in
        via 𝓤 ((r ∗ d) ∗ (Rooms E ∗ (Dies E ∗ P)))
        (qed 𝓛 ((raw r ⊛ raw (Rooms E)) ∷ (raw d ⊛ raw (Dies E)) ∷ raw P ∷ []) ∵ split ! $ move ! (2 ∷ []) $ split ! $ move ! (2 ∷ 0 ∷ []) $ join ! $ frame ! $ move ! (1 ∷ 0 ∷ 2 ∷ []) $ done !)
        (mono_r 𝓤 (r ∗ d) (release⊢ E P))

-- what is shown of the code once the locals stand in these blocks
abbrev Stands : {M : Type 1} {𝓤 : Ura M} (K : Type 0) (𝓛 : Logic 𝓤) (Γ : List (Item 𝓤)) (ls : List Local) → (Env 𝓤 𝓛.H → Goal 𝓤 𝓛.H) → Blocks ls → Type 1
Stands {𝓤 = 𝓤} K 𝓛 Γ ls Kt ns =
    Seq K 𝓛 (locals 𝓛 (env 𝓛 ls ns) (none_set 𝓛 (env 𝓛 ls ns)) (raw (Dies 𝓛 (env 𝓛 ls ns)) ∷ Γ)) (Kt (env 𝓛 ls ns))

module _ {M : Type 1} {𝓤 : Ura M} {𝓛 : Logic 𝓤} {K : Type 0} {Γ : List (Item 𝓤)} where
  open 𝓛 use {H}

  pub allocs_all : K → {ls : List Local} {Kt : Env 𝓤 H → Goal 𝓤 H} → Every ls (Stands K 𝓛 Γ ls Kt) → Seq K 𝓛 Γ (allocs ls Kt)
  allocs_all t {ls} {Kt} k = record {
    prf = alloc⊢ 𝓛 ls (⋆ 𝓛 Γ) (λ E. aim 𝓤 H (Kt E)) (λ ns.
        via 𝓤 (sep 𝓤 (Rooms 𝓛 (env 𝓛 ls ns)) (⋆ 𝓛 (raw (Dies 𝓛 (env 𝓛 ls ns)) ∷ Γ))) (mono_r 𝓤 (Rooms 𝓛 (env 𝓛 ls ns)) (push 𝓛 (raw (Dies 𝓛 (env 𝓛 ls ns))) Γ))
        (via 𝓤 _ (in⊢ 𝓛 (env 𝓛 ls ns) (raw (Dies 𝓛 (env 𝓛 ls ns)) ∷ Γ)) (at_all ls (Stands K 𝓛 Γ ls Kt) k ns).prf));
  }

module _ {M : Type 1} {𝓤 : Ura M} {𝓛 : Logic 𝓤} {K : Type 0} where
  open 𝓛 use {H}

  pub frees_all : K → {E : Env 𝓤 H} {P : SProp 𝓤} (Δ : List (Item 𝓤)) (cs : List Cell) → Home 𝓛 E cs → ent 𝓤 (⋆ 𝓛 Δ) P → Seq K 𝓛 (Δ ++ locals 𝓛 E cs (raw (Dies 𝓛 E) ∷ [])) (frees E (prop P))
  frees_all t {E} {P} Δ cs h k = record {
    prf = via 𝓤 (sep 𝓤 (⋆ 𝓛 Δ) (⋆ 𝓛 (locals 𝓛 E cs (raw (Dies 𝓛 E) ∷ [])))) (⊢++ 𝓛 Δ (locals 𝓛 E cs (raw (Dies 𝓛 E) ∷ [])))
        (via 𝓤 (sep 𝓤 P (sep 𝓤 (Rooms 𝓛 E) (Dies 𝓛 E))) (mono∗ 𝓤 k (out⊢ 𝓛 E cs h (raw (Dies 𝓛 E) ∷ [])))
        (via 𝓤 (sep 𝓤 (Rooms 𝓛 E) (sep 𝓤 (Dies 𝓛 E) P)) (qed 𝓛 (raw P ∷ raw (Rooms 𝓛 E) ∷ raw (Dies 𝓛 E) ∷ []) ∵ move ! (1 ∷ 2 ∷ 0 ∷ []) $ done !) (release⊢ 𝓛 E P)));
  }
