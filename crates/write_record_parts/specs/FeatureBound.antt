-- How long the feature table's lines can become: no two features share a qualifier, so the room of qualifiers bounds them all.
use Prim.Native.Nat.{ℕ, zero, suc, ◌+◌, ◌-◌, ◌*◌, ◌/◌, ◌≤◌}
use Rattle.std.proofs.Common.{arith, leb-true, eqb-true}
use Rattle.std.specs.Prelude.{◌≡◌, Bool, false, ◌&&◌, List, ◌++◌, eqb, get_or, Option, Some, None}
use Rattle.std.proofs.Math.Path.{refl}
use Rattle.std.proofs.Math.Bool.{true}
use Rattle.std.proofs.lemmas.Bool.{false≢true}
use Rattle.std.proofs.Math.ListN.{length, length-append}
use Rattle.spec_format.specs.Bytes.{bytes, spaces, each}
use Rattle.spec_format.specs.Rooms.{Rooms, cut, text_in, perhaps_text, rows_from, qualifier_in, feature_in, row_text_fine, qualifiers_fine, features_fine}
use Rattle.spec_format.specs.Wrap.{wrap_location}
use Rattle.spec_format.specs.Write.{key_text, qualifier_text, qualifier_lines, feature_lines, features_lines}
use Rattle.write_feature.specs.Lines.{feature_start, value_length, feature_length}
use Rattle.write_header.specs.Bound.{AtMost, none_most, both_most, each_most, cut_most}
use Rattle.judge_rooms.specs.Parts.{feature_next}
use Rattle.judge_rooms.specs.Steps.{and_left, and_right, span_within, feature_located, features_step, after_next}
use Rattle.spec_format.specs.Impossible.{impossible}
use Rattle.spec_format.specs.Record.{most}

ruleset parts = (and_left, and_right)

-- a feature's qualifiers lie between those of the earlier ones and those of the next
next_after : (r : Rooms) (at from f : ℕ) → feature_next r at from ≡ Some f → from ≤ length r.qualifiers / 4
    → (from + get_or r.features (at + 5) 0 ≤ f) × (f ≤ length r.qualifiers / 4)
unfolding feature_next qualifiers_fine
next_after r at from f h l = go _ refl _ refl _ refl
  where
    go : (x : Bool) → (row_text_fine r r.features at && row_text_fine r r.features (at + 2)) ≡ x → (y : Bool)
        → eqb (get_or r.features (at + 5) 0) 0 ≡ y → (z : Bool)
        → qualifiers_fine r from (get_or r.features (at + 4) 0) (get_or r.features (at + 5) 0) ≡ z
        → (from + get_or r.features (at + 5) 0 ≤ f) × (f ≤ length r.qualifiers / 4)
    go false p y q z s = let e : None ≡ Some f = rw p at h in impossible cc
    go true p true q z s =
        let e : Some from ≡ Some f = rw (p, q) at h in
        let k : from ≡ f = cc in
        let n : get_or r.features (at + 5) 0 ≡ 0 = eqb-true _ _ q in
        (omega arith, omega arith)
    go true p false q false s = let e : None ≡ Some f = rw (p, q, s) at h in impossible cc
    go true p false q true s =
        let e : Some (get_or r.features (at + 4) 0 + get_or r.features (at + 5) 0) ≡ Some f = rw (p, q, s) at h in
        let k : get_or r.features (at + 4) 0 + get_or r.features (at + 5) 0 ≡ f = cc in
        let a : from ≤ get_or r.features (at + 4) 0 = leb-true _ _ (search parts depth 12) in
        let b : get_or r.features (at + 4) 0 + get_or r.features (at + 5) 0 ≤ length r.qualifiers / 4 = span_within _ _ _ (search parts depth 12) in
        (omega arith, omega arith)

module _ (W : ℕ) (r : Rooms) (small : length r.texts ≤ most) where
  -- 25 * 16,777,216 + 48
  value_most : (k : List ℕ) (start n : ℕ) → length k ≤ most → AtMost (qualifier_text W k (perhaps_text r.texts start n)) 419430448
  value_most k start zero h =
      record { is = omega (arith, length-append (key_text k) (bytes "\n"), length-append (spaces 21 ++ bytes "/") k) }
  value_most k start (suc n) h = record { is = omega (arith, value_length W k (cut r.texts start n), cut_most r.texts start n) }

  qualifier_most : (at : ℕ) → AtMost (qualifier_lines W (qualifier_in r at)) 419430448
  unfolding qualifier_lines qualifier_in
  qualifier_most at =
      value_most (text_in r.texts r.qualifiers at) (get_or r.qualifiers (at + 2) 0) (get_or r.qualifiers (at + 2 + 1) 0)
      (omega (arith, cut_most r.texts (get_or r.qualifiers at 0) (get_or r.qualifiers (at + 1) 0)))

  -- 24 * 16,777,216 + 22
  first_most : (kind location : List ℕ) → length kind ≤ most → length location ≤ most
      → AtMost (wrap_location W (feature_start kind) 21 location) 402653206
  first_most kind location a b = record { is = omega (arith, feature_length W kind location) }

  feature_most : (at : ℕ) → AtMost (feature_lines W (feature_in r at)) (402653206 + 419430448 * get_or r.features (at + 5) 0)
  unfolding feature_lines feature_in
  feature_most at =
      both_most
      (first_most
      (text_in r.texts r.features at)
      (text_in r.texts r.features (at + 2))
      (omega (arith, cut_most r.texts (get_or r.features at 0) (get_or r.features (at + 1) 0)))
      (omega (arith, cut_most r.texts (get_or r.features (at + 2) 0) (get_or r.features (at + 2 + 1) 0))))
      (each_most (qualifier_lines W) (qualifier_in r) 4 (get_or r.features (at + 4) 0) (get_or r.features (at + 5) 0) 419430448 qualifier_most)

  each_feature_most : (i from n : ℕ) → features_fine r i from n ≡ true → from ≤ length r.qualifiers / 4
      → AtMost (each (feature_lines W) (rows_from (feature_in r) 8 i n)) (402653206 * n + 419430448 * (length r.qualifiers / 4 - from))
  unfolding rows_from
  each_feature_most i from zero h l = none_most
  each_feature_most i from (suc n) h l = go (feature_next r (8 * i) from) refl (rw features_step at h) (λ f. each_feature_most (i + 1) f n)
    where
      go : (o : Option ℕ) → feature_next r (8 * i) from ≡ o → after_next r i n (feature_next r (8 * i) from) ≡ true
          → ((f : ℕ) → features_fine r (i + 1) f n ≡ true → f ≤ length r.qualifiers / 4
          → AtMost (each (feature_lines W) (rows_from (feature_in r) 8 (i + 1) n)) (402653206 * n + 419430448 * (length r.qualifiers / 4 - f)))
          → AtMost (each (feature_lines W) (rows_from (feature_in r) 8 i (suc n))) (402653206 * suc n + 419430448 * (length r.qualifiers / 4 - from))
      go None e g ih = absurd (false≢true (rw e at g))
      go (Some f) e g ih =
          let k = next_after r (8 * i) from f e l in
          let t = feature_most (8 * i) in
          let u = ih f (and_right (feature_located r (8 * i)) _ (rw e at g)) k.1 in
          record { is = omega (arith, length-append (feature_lines W (feature_in r (8 * i))) (each (feature_lines W) (rows_from (feature_in r) 8 (i + 1) n))) }

  pub features_most : (n : ℕ) → features_fine r 0 0 n ≡ true
      → AtMost (features_lines W (rows_from (feature_in r) 8 0 n)) (41 + 402653206 * n + 419430448 * (length r.qualifiers / 4))
  unfolding rows_from features_lines
  features_most zero h = none_most
  features_most (suc n) h =
      let u = each_feature_most 0 0 (suc n) h (omega arith) in
      record { is = omega (arith, length-append (bytes "FEATURES             Location/Qualifiers\n") (each (feature_lines W) (rows_from (feature_in r) 8 0 (suc n)))) }
