-- What the tests get of the entry points that ship when they lend a flat room of features: the answer on as many of its numbers as are whole rows. The numbers behind them stay as they were.
use Rattle.std.specs.Prelude.{ℕ, ◌*◌, ◌≤◌, Bool, ◌≡◌, List, ◌++◌, length, take, drop}
use Rattle.std.proofs.Common.{zero-add, arith, ap, subst, ◌∙◌, length-append, length-drop}
use Rattle.std.proofs.lemmas.List.Edits.{sets, sets-eq}
use Rattle.std.proofs.Math.Seq.{take-append_seam, drop-append_seam}
use Rattle.spec_format.specs.Rooms.{Rooms, rooms_in}
use Rattle.spec_contracts.specs.declared.Reported.{Reported}
use Rattle.spec_contracts.specs.Reads.{ReadReported}
use Rattle.base_rows.specs.declared.Feature.{Feature}
use Rattle.base_rows.specs.Rows.{flat}
use Rattle.base_rows.specs.Flat.{flat_length}

-- the rooms with the first k numbers of the features' room
abbrev pub first : ℕ → Rooms → Rooms
first k x = rooms_in x.texts x.references x.comments (take k x.features) x.qualifiers x.locations x.letters

pub record Through (strict : Bool) (s : List ℕ) (at k : ℕ) (old new : Rooms) (r : Reported) : Type 0 where
  pub answered : ReadReported strict s at (first k old) (first k new) r
  pub rest : drop k new.features ≡ drop k old.features

-- ---- rows that were read into are put back

front : (n : ℕ) (zs ys : List Feature) → length zs ≡ n → take n (zs ++ ys) ≡ zs
front n zs ys e = subst (λ (k : ℕ). take k (zs ++ ys) ≡ zs) e (take-append_seam zs ys)

as_long : (n : ℕ) (zs rows : List Feature) → length rows ≡ 33 → n ≤ 33 → length (zs ++ drop n rows) ≡ 33 → length zs ≡ n
as_long n zs rows e h q = omega (arith, length-append zs (drop n rows), length-drop n rows)

put_back : (n : ℕ) (zs : List Feature) (t : List ℕ) → length zs ≡ n → 8 * n ≤ length t → sets t 0 (flat zs) ≡ flat zs ++ drop (8 * n) t
put_back n zs t e h =
    let l : length (flat zs) ≡ 8 * n = flat_length zs ∙ ap (λ (k : ℕ). 8 * k) e in
    sets-eq (flat zs) t 0 (omega (arith, l)) ∙ rw (zero-add (length (flat zs)), l)

put_front : (n : ℕ) (zs : List Feature) (t : List ℕ) → length zs ≡ n → take (8 * n) (flat zs ++ t) ≡ flat zs
put_front n zs t e = subst (λ (k : ℕ). take k (flat zs ++ t) ≡ flat zs) (flat_length zs ∙ ap (λ (k : ℕ). 8 * k) e) (take-append_seam (flat zs) t)

put_rest : (n : ℕ) (zs : List Feature) (t : List ℕ) → length zs ≡ n → drop (8 * n) (flat zs ++ t) ≡ t
put_rest n zs t e = subst (λ (k : ℕ). drop k (flat zs ++ t) ≡ t) (flat_length zs ∙ ap (λ (k : ℕ). 8 * k) e) (drop-append_seam (flat zs) t)

module _ (strict : Bool) (s : List ℕ) (at n : ℕ) (rows zs : List Feature) (old new : Rooms) (r : Reported) where
  abbrev Rowed : Type 0
  Rowed =
      ReadReported strict s at (rooms_in old.texts old.references old.comments (flat (take n rows)) old.qualifiers old.locations old.letters)
      (rooms_in new.texts new.references new.comments (flat zs) new.qualifiers new.locations new.letters) r

  pub through : length rows ≡ 33 → n ≤ 33 → 8 * n ≤ length old.features → flat (take n rows) ≡ take (8 * n) old.features → length (zs ++ drop n rows) ≡ 33 → Rowed
      → new.features ≡ sets old.features 0 (flat (take n (zs ++ drop n rows))) → Through strict s at (8 * n) old new r
  through e h k q l a p =
      let m : length zs ≡ n = as_long n zs rows e h l in
      let f : new.features ≡ flat zs ++ drop (8 * n) old.features = p ∙ rw (front n zs (drop n rows) m) (put_back n zs old.features m k) in
      let g : take (8 * n) new.features ≡ flat zs = rw f (put_front n zs (drop (8 * n) old.features) m) in
      record { answered = rw (g, ← q) a; rest = rw f (put_rest n zs (drop (8 * n) old.features) m) }
