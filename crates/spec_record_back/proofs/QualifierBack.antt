-- A qualifier, written and read.
use Prim.Native.Nat.{ℕ, ◌+◌, ◌-◌, ◌≤◌}
use Rattle.std.proofs.Common.{arith, ap, ◌∙◌, leb-true}
use Rattle.std.specs.Prelude.{Bool, not, ◌≡◌, eqb, leb}
use Rattle.std.proofs.Math.Bool.{true, false}
use Rattle.std.proofs.Math.Path.{refl}
use mathlib.Core.List.{List, [], ◌∷◌, ◌++◌, append_assoc}
use Rattle.std.proofs.Math.ListN.{length}
use Rattle.std.proofs.lemmas.Bool.{not-true}
use Rattle.spec_format.specs.Bytes.{May, absent, is, bytes, some, all, same, visible, but}
use Rattle.spec_format.specs.Readers.{got}
use Rattle.spec_format.specs.Features.{value, key_end, qualifier}
use Rattle.spec_format.specs.Table.{Qualifier}
use Rattle.spec_format.specs.Write.{comma_key, bare_key, key_text, qualifier_text, qualifier_lines}
use Rattle.spec_format.specs.WellFormed.{if_is, key_fine, value_fine, qualifier_fine}
use Rattle.spec_format.specs.Keeping.{translation_kept, value_kept, qualifier_kept}
use Rattle.spec_texts_back.specs.Tests.{and_left, and_right, and_both, all_and}
use Rattle.spec_texts_back.specs.Pieces.{no_end, visible_no_end}
use Rattle.spec_texts_back.specs.BareBack.{ends}
use Rattle.spec_texts_back.proofs.QuotedBack.{quoted_back, joined_back}
use Rattle.spec_feature_names.specs.Taken.{inside, key_taken, visible_utf8}
use Rattle.spec_format.specs.Impossible.{impossible}
use Rattle.spec_record_back.specs.QualifierBack.{value_text, value_lines_lem, comma_value, bare_value, quoted_value, key_steps, flag_value, pair_value}

-- ---- bytes

-- a key has no `=` and no line end
key_byte : (b : ℕ) → visible b ≡ true → but 61 b ≡ true → not (key_end b) ≡ true
key_byte b h k =
    let n : no_end b ≡ true = visible_no_end b h in
    cc (not-true (eqb b 61) k, not-true (eqb b 10) (and_left (but 10 b) (but 13 b) n), not-true (eqb b 13) (and_right (but 10 b) (but 13 b) n))

-- ---- a value

module _ (W : ℕ) (k v rest : List ℕ) (room : 25 + length k ≤ W) (fine : ends 21 rest ≡ true) where
  value_back : value_fine k v ≡ true → value_kept W k v ≡ true → value 21 k (value_text W k v ++ rest) ≡ got v rest
  unfolding value_kept
  value_back f h = go (comma_key k) refl (bare_key k) refl (same k (bytes "translation")) refl
    where
      go :
          (x : Bool) → comma_key k ≡ x → (y : Bool) → bare_key k ≡ y → (z : Bool) → same k (bytes "translation") ≡ z →
          value 21 k (value_text W k v ++ rest) ≡ got v rest
      go true p y q z r = comma_value W k v rest room fine p (cc) (cc)
      go false p true q z r = bare_value W k v rest room fine p q (cc) (cc)
      go false p false q true r =
          let t : translation_kept v ≡ true = cc in
          let a : all visible v ≡ true = and_left (all visible v) (all (but 34) v) t in
          quoted_value W k v rest room fine p q (rw r (joined_back W 21 (omega arith) (24 + length k) v rest a (and_right (all visible v) (all (but 34) v) t) fine)) (visible_utf8 v a)
      go false p false q false r = quoted_value W k v rest room fine p q (rw r (quoted_back W 21 (24 + length k) v rest (cc) fine)) (cc)

-- ---- a qualifier

some_pos : (k : List ℕ) → some k ≡ true → 1 ≤ length k
some_pos [] h = impossible cc
some_pos (b ∷ k) h = omega arith

parts_back :
    (W : ℕ) (k : List ℕ) (o : May (List ℕ)) (rest : List ℕ) → key_fine W k ≡ true → if_is (value_fine k) o ≡ true → if_is (value_kept W k) o ≡ true →
    ends 21 rest ≡ true → qualifier 21 (qualifier_text W k o ++ rest) ≡ got (record { key = k; value = o }) rest
parts_back W k o rest f v h e = go o v h
  where
    long : length k ≤ W - 25
    long = leb-true (length k) (W - 25) (and_left (leb (length k) (W - 25)) _ f)

    held : some k ≡ true
    held = search (and_left, and_right)

    seen : all visible k ≡ true
    seen = search (and_left, and_right)

    free : all (but 61) k ≡ true
    free = search (and_left, and_right)

    within : inside key_end k ≡ true
    within = all_and visible (but 61) (λ b. not (key_end b)) key_byte k seen free

    taken : key_taken k ≡ true
    taken = and_both (some k) _ held (and_both (inside key_end k) _ within (visible_utf8 k seen))

    go :
        (o : May (List ℕ)) → if_is (value_fine k) o ≡ true → if_is (value_kept W k) o ≡ true →
        qualifier 21 (qualifier_text W k o ++ rest) ≡ got (record { key = k; value = o }) rest
    go absent v h = rw (append_assoc (key_text k) (bytes "\n") rest) (key_steps k (10 ∷ rest) absent rest taken refl (flag_value k rest))
    go (is t) v h =
        let x : List ℕ = value_text W k t ++ rest in
        let l : 25 + length k ≤ W = omega (arith, long, some_pos k held) in
        let e₁ : qualifier_text W k (is t) ++ rest ≡ key_text k ++ (61 ∷ x) =
        ap (λ (y : List ℕ). y ++ rest) (value_lines_lem W k t) ∙ append_assoc (key_text k ++ bytes "=") (value_text W k t) rest ∙
        append_assoc (key_text k) (bytes "=") x in
        rw e₁ (key_steps k (61 ∷ x) (is t) rest taken refl (pair_value k t x rest (value_back W k t rest l e v h)))

-- A QUALIFIER is read back
pub qualifier_back :
    (W : ℕ) (q : Qualifier) (rest : List ℕ) → qualifier_fine W q ≡ true → qualifier_kept W q ≡ true → ends 21 rest ≡ true →
    qualifier 21 (qualifier_lines W q ++ rest) ≡ got q rest
unfolding qualifier_fine qualifier_kept qualifier_lines
qualifier_back W q rest f h e =
    parts_back W q.key q.value rest (and_left (key_fine W q.key) _ f) (and_right (key_fine W q.key) _ f) h e
