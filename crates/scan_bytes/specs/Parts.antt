-- Laws of a part of a slice.
use Rattle.std.specs.Prelude.{ℕ, suc, ◌+◌, ◌-◌, ◌≤◌, ◌<◌, ◌≡◌, List, [], ◌∷◌, ◌++◌, length, get_or, drop}
use Rattle.std.proofs.Common.{arith, length-take, length-drop, take-suc, take-add, drop-drop, drop-cons, get_or-drop}
use Rattle.scan_bytes.specs.Places.{part}

module _ (s : List ℕ) (from to : ℕ) where
  pub length_part : from ≤ to → to ≤ length s → length (part from to s) ≡ to - from
  length_part h k = simp (length-take, length-drop) (omega arith)

  pub part_none : to ≤ from → part from to s ≡ []
  part_none h = let z : to - from ≡ 0 = omega arith in rw z

  -- one byte more
  pub part_snoc : from ≤ to → to < length s → part from (to + 1) s ≡ part from to s ++ (get_or s to 0 ∷ [])
  part_snoc h k =
      let a : to + 1 - from ≡ suc (to - from) = omega arith in
      let b : from + (to - from) ≡ to = omega arith in
      let l : to - from < length (drop from s) = simp length-drop (omega arith) in
      rw (a, take-suc (drop from s) (to - from) 0 l, get_or-drop from s (to - from) 0, b)

  -- its first byte
  pub part_cons : from < to → to ≤ length s → part from to s ≡ get_or s from 0 ∷ part (from + 1) to s
  part_cons h k =
      let a : to - from ≡ suc (to - (from + 1)) = omega arith in
      let f : from < length s = omega arith in
      let b : suc from ≡ from + 1 = omega arith in
      rw (a, drop-cons s from 0 f, b)

  pub part_append : (mid : ℕ) → from ≤ mid → mid ≤ to → part from to s ≡ part from mid s ++ part mid to s
  part_append mid h k =
      let a : to - from ≡ (mid - from) + (to - mid) = omega arith in
      let b : from + (mid - from) ≡ mid = omega arith in
      rw (a, take-add (mid - from) (to - mid) (drop from s), drop-drop (mid - from) from s, b)
