-- The round trip at any place of a slice, and of many tables written one after the other.
use Rattle.std.specs.Prelude.{ℕ, ◌+◌, ◌-◌, Bool, true, false, ◌≡◌, length, leb}
use native.Mathlib.Omega.{arith}
use Rattle.std.proofs.Math.Path.{refl}
use Rattle.std.proofs.Common.{ap, sym, ◌∙◌, length-append, le-leb, eq-eqb}
use mathlib.Core.List.{List, [], ◌∷◌, ◌++◌, append_assoc, append-nil}
use Rattle.spec_format.specs.Bytes.{all, each}
use Rattle.spec_format.specs.Readers.{line_end}
use Rattle.spec_format.specs.Table.{Table}
use Rattle.spec_format.specs.Record.{was_read, not_read, most, read_at}
use Rattle.spec_format.specs.Write.{locus_text, written}
use Rattle.spec_format.specs.WellFormed.{width_fine, well_formed}
use Rattle.spec_format.specs.Rooms.{locations_read}
use Rattle.spec_format.specs.Keeping.{keeps}
use Rattle.spec_format.specs.declared.Unread.TheVariants as unread
use Rattle.spec_texts_back.specs.Tests.{and_left, and_right, all_head, all_tail}
use Rattle.spec_record_back.specs.RecordBack.{line_ends}
use Rattle.spec_record_back.proofs.RecordBack.{kept}
use Rattle.spec_record_back.specs.RecordsBack.{keepable, written_some, at_steps, Records, none, more}

module _ (W : ℕ) (truncate escape : Bool) where
  -- a record starts with a byte that is no line end's
  written_starts : (t : Table) (rest : List ℕ) → line_ends (written W truncate escape t ++ rest) ≡ false
  unfolding written locus_text line_end
  written_starts t rest = refl

at_end_lem : (s : List ℕ) (at : ℕ) → at ≡ length s → leb (length s) most ≡ true → read_at s at ≡ not_read unread.AtEnd
unfolding read_at
at_end_lem s at e m =
    let i : leb at (length s) ≡ true = le-leb at (length s) (omega arith) in
    rw (m, i, eq-eqb at (length s) e)

module _ (W : ℕ) (truncate escape : Bool) (w : width_fine W ≡ true) where
  record_at :
      (s before : List ℕ) (t : Table) (rest : List ℕ) → s ≡ before ++ (written W truncate escape t ++ rest) → keepable W truncate escape t ≡ true →
      line_ends rest ≡ false → leb (length s) most ≡ true → read_at s (length before) ≡ was_read t rest
  record_at s before t rest p k e m =
      let k₁ = and_right (well_formed W truncate escape t) _ k in
      let k₂ = and_right (keeps W truncate escape t) _ k₁ in
      at_steps s before (written W truncate escape t ++ rest) (was_read t rest) p (written_some W truncate escape t rest) m
      (kept W truncate escape t rest w (and_left (well_formed W truncate escape t) _ k) (and_left (keeps W truncate escape t) _ k₁)
      (and_left (locations_read t) _ k₂) (and_right (locations_read t) _ k₂) e)

  -- at any place of a slice, whatever stands before it
  pub kept_inside :
      (before : List ℕ) (t : Table) (rest : List ℕ) → keepable W truncate escape t ≡ true → line_ends rest ≡ false →
      leb (length (before ++ (written W truncate escape t ++ rest))) most ≡ true →
      read_at (before ++ (written W truncate escape t ++ rest)) (length before) ≡ was_read t rest
  kept_inside before t rest k e m = record_at (before ++ (written W truncate escape t ++ rest)) before t rest refl k e m

  -- alone in a slice, from its start: nothing is left
  pub kept_alone :
      (t : Table) → keepable W truncate escape t ≡ true → leb (length (written W truncate escape t)) most ≡ true →
      read_at (written W truncate escape t) 0 ≡ was_read t []
  unfolding line_end
  kept_alone t k m = record_at (written W truncate escape t) [] t [] (sym (append-nil (written W truncate escape t))) k refl m

module _ (W : ℕ) (truncate escape : Bool) (w : width_fine W ≡ true) where
  next_starts : (ts : List Table) → line_ends (each (written W truncate escape) ts) ≡ false
  unfolding line_end
  next_starts [] = refl
  next_starts (t ∷ ts) = written_starts W truncate escape t (each (written W truncate escape) ts)

  records_from :
      (s : List ℕ) → leb (length s) most ≡ true → (ts : List Table) (before : List ℕ) → s ≡ before ++ each (written W truncate escape) ts →
      all (keepable W truncate escape) ts ≡ true → Records s (length before) ts
  records_from s m [] before p k =
      let e : length before ≡ length s = omega (arith, ap length (p ∙ append-nil before)) in
      none (length before) (at_end_lem s (length before) e m)
  records_from s m (t ∷ ts) before p k =
      let x : List ℕ = written W truncate escape t in
      let rest : List ℕ = each (written W truncate escape) ts in
      let q : s ≡ before ++ x ++ rest = p ∙ sym (append_assoc before x rest) in
      let n : length s ≡ length (before ++ x) + length rest = ap length q ∙ length-append (before ++ x) rest in
      let e : length s - length rest ≡ length (before ++ x) = omega arith in
      more (length before) t rest ts
      (record_at W truncate escape w s before t rest p (all_head (keepable W truncate escape) t ts k) (next_starts ts) m)
      (rw e (records_from s m ts (before ++ x) q (all_tail (keepable W truncate escape) t ts k)))

  -- TABLES WRITTEN ONE AFTER THE OTHER are read back, all of them, in their order, and no other
  pub kept_all :
      (ts : List Table) → all (keepable W truncate escape) ts ≡ true → leb (length (each (written W truncate escape) ts)) most ≡ true →
      Records (each (written W truncate escape) ts) 0 ts
  kept_all ts k m = records_from (each (written W truncate escape) ts) m ts [] refl k
