-- Items written into a list at a place, and the laws by which a run of writes is one write.
-- `sets old at text` of `lib.Seq` is `old` with `text` stored from `at` on; what falls past the end is lost. So no law below asks for room.
use Rattle.std.specs.Prelude.{◌≡◌, refl, ℕ, suc, ◌+◌, ◌-◌, ◌≤◌, ◌<◌, ◌^◌, List, [], ◌∷◌, ◌++◌, length, get_or, take, drop, set, min, zero}
use Rattle.std.proofs.Common.{sym, ◌∙◌, add-zero, add-suc, suc-add, le_trans, le_refl, arith, length-append, length-take, drop-drop, length-set, append_assoc, length-take-le}
use Rattle.std.proofs.lemmas.List.Edits.{sets, sets-eq}
use Rattle.std.proofs.lemmas.List.{take_more}
use Rattle.std.proofs.Math.Seq.{set_out, take-nil}
use borrow.Rule.Slice.PartMut.{put_mid}

-- `text` was written into `old` at `at`, which made it `new`, and `next` is the place after it
pub record Wrote {A : Type 0} (old : List A) (at : ℕ) (text : List A) (new : List A) (next : ℕ) : Type 0 where
  pub is : new ≡ sets old at text
  pub to : next ≡ at + length text

-- the same, if the place after the text is one that a usize can hold; in any case the place does not fall
pub record Writes {A : Type 0} (old : List A) (at : ℕ) (text : List A) (new : List A) (next : ℕ) : Type 0 where
  pub fit : at + length text < 2 ^ 64 → Wrote old at text new next
  pub up : at ≤ next

-- x and then y behind it is x ++ y
pub sets_append : {A : Type 0} (x y l : List A) (i : ℕ) → sets (sets l i x) (i + length x) y ≡ sets l i (x ++ y)
sets_append [] y l i = rw (add-zero i)
sets_append (a ∷ x) y l i = rw (add-suc i (length x), ← (suc-add i (length x))) (sets_append x y (set l i a) (suc i))

pub wrote_append : {A : Type 0} {l m n : List A} {i j k : ℕ} {x y : List A} → Wrote l i x m j → Wrote m j y n k → Wrote l i (x ++ y) n k
wrote_append {l} {m} {n} {i} {j} {k} {x} {y} p q =
    record { is = q.is ∙ rw (p.is, p.to, sets_append x y l i); to = omega (arith, length-append x y, p.to, q.to) }

pub writes_nil : {A : Type 0} {l : List A} {i : ℕ} → Writes l i [] l i
writes_nil {l} {i} = record { fit = λ h. record { is = refl; to = sym (add-zero i) }; up = le_refl i }

-- the second text may be chosen by where the first one ended
pub writes_then : {A : Type 0} {l m n : List A} {i j k : ℕ} {x y : List A} → Writes l i x m j → j ≤ k → (j ≡ i + length x → Writes m j y n k) → Writes l i (x ++ y) n k
writes_then {l} {m} {n} {i} {j} {k} {x} {y} p u q =
    record {
      fit = λ h.
          let w : Wrote l i x m j = p.fit (omega (arith, length-append x y)) in
          wrote_append w ((q w.to).fit (omega (arith, length-append x y, w.to)));
      up = le_trans p.up u;
    }

pub writes_append : {A : Type 0} {l m n : List A} {i j k : ℕ} {x y : List A} → Writes l i x m j → Writes m j y n k → Writes l i (x ++ y) n k
writes_append p q = writes_then p q.up (λ e. q)

-- the text may be named by what it equals
pub writes_as : {A : Type 0} {l n : List A} {i k : ℕ} {x y : List A} → x ≡ y → Writes l i x n k → Writes l i y n k
writes_as e p = rw e at p

-- What is left: whatever writes `rest` from here has written `whole` from `at`. It is the invariant of a loop that writes.
pub record Left {A : Type 0} (old : List A) (at : ℕ) (whole : List A) (new : List A) (next : ℕ) (rest : List A) : Type 0 where
  pub by : (n : List A) (k : ℕ) → Writes new next rest n k → Writes old at whole n k

pub left_start : {A : Type 0} {l : List A} {i : ℕ} {x : List A} → Left l i x l i x
left_start = record { by = λ n k w. w }

pub left_step : {A : Type 0} {l m n : List A} {i j k : ℕ} {x y z : List A} → Left l i x m j (y ++ z) → Writes m j y n k → Left l i x n k z
left_step p w = record { by = λ o h q. p.by o h (writes_append w q) }

pub left_as : {A : Type 0} {l m : List A} {i j : ℕ} {x y z : List A} → y ≡ z → Left l i x m j y → Left l i x m j z
left_as e p = rw e at p

pub left_end : {A : Type 0} {l m : List A} {i j : ℕ} {x : List A} → Left l i x m j [] → Writes l i x m j
left_end {l} {m} {i} {j} {x} p = p.by m j writes_nil

-- where there is room it is what one expects
pub wrote_eq : {A : Type 0} {l n : List A} {i k : ℕ} {x : List A} → Wrote l i x n k → i + length x ≤ length l → n ≡ take i l ++ x ++ drop (i + length x) l
wrote_eq {l} {n} {i} {k} {x} p h = p.is ∙ sets-eq x l i h

-- a whole text past the end
pub sets_past : {A : Type 0} (x l : List A) (i : ℕ) → length l ≤ i → sets l i x ≡ l
sets_past [] l i h = refl
sets_past (a ∷ x) l i h = rw (set_out l i a h) (sets_past x l (suc i) (omega arith))

-- the text's front, where the room ends in the text
sets_front : {A : Type 0} (x l : List A) (i n : ℕ) → (n < length x → length l ≤ i + n) → sets l i (take n x) ≡ sets l i x
sets_front [] l i n h = rw take-nil
sets_front (a ∷ x) l i zero h = sym (sets_past (a ∷ x) l i (omega arith))
sets_front (a ∷ x) l i (suc n) h = sets_front x (set l i a) (suc i) n (λ m. rw length-set (omega arith))

-- one item more
pub sets_more : {A : Type 0} (x l : List A) (i n : ℕ) (a : A) → n < length x → set (sets l i (take n x)) (i + n) (get_or x n a) ≡ sets l i (take (n + 1) x)
sets_more x l i n a h = let e : length (take n x) ≡ n = length-take-le n x (omega arith) in rw (take_more x n a h) (rw e at (sets_append (take n x) (get_or x n a ∷ []) l i))

-- a copy into the room's part from i on
pub wrote_part : {A : Type 0} (x l : List A) (i n : ℕ) → n ≡ length x → i + length x ≤ length l → put_mid i n l x ≡ sets l i x
wrote_part x l i n e h = rw (e, sets-eq x l i h, drop-drop, append_assoc)

-- past the room nothing is written
pub writes_past : {A : Type 0} {l x : List A} {i k : ℕ} → length l ≤ i → i ≤ k → (i + length x < 2 ^ 64 → k ≡ i + length x) → Writes l i x l k
writes_past {l} {x} {i} m u e = record { fit = λ f. record { is = sym (sets_past x l i m); to = e f }; up = u }

-- A place that goes on by the text's length, as far as a usize goes: in the room stands the part that fits.
pub writes_front : {A : Type 0} {l m x : List A} {i e k j : ℕ} → i < 2 ^ 64 → k ≡ min (i + length x) (2 ^ 64 - 1) → e ≡ min k (length l) → Wrote l i (take (e - i) x) m j → Writes l i x m k
writes_front {l} {x} {i} {e} {k} h m is p =
    record { fit = λ f. record { is = p.is ∙ sets_front x l i (e - i) (λ t. omega arith); to = omega arith }; up = omega arith }

pub writes_part : {A : Type 0} {l x y : List A} {i e k : ℕ} → i < 2 ^ 64 → k ≡ min (i + length x) (2 ^ 64 - 1) → i < length l → e ≡ min k (length l) → y ≡ take (e - i) x
    → Writes l i x (put_mid i (e - i) l y) k
writes_part {l} {x} {y} {i} {e} {k} h to m is q =
    record {
      fit = λ f.
          let n : length (take (e - i) x) ≡ e - i = rw length-take (omega arith) in
          record { is = rw (q, wrote_part (take (e - i) x) l i (e - i) (sym n) (rw n (omega arith))) (sets_front x l i (e - i) (λ t. omega arith)); to = omega arith };
      up = omega arith;
    }
