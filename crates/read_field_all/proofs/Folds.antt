-- One more field at the end of a list of fields: the last that is found there, all that are found, and their texts. Assumes nothing.
use Prim.Native.Nat.{suc, ◌+◌}
use mathlib.Core.Path.{◌≡◌, refl, sym}
use mathlib.Core.Bool.{Bool, true, false}
use mathlib.Core.List.{List, [], ◌∷◌, ◌++◌, append_assoc}
use native.Mathlib.Omega.{arith}
use lib.ListN.{length, length-append}
use lib.Dec.{ltb}
use borrow.Author.Tests.{lt-ltb}
use Rattle.spec_format.specs.Bytes.{May, absent, is}
use Rattle.spec_format.specs.Header.{Field, latest, every}
use Rattle.spec_format.specs.Rooms.{Piece, pieces_text, texts_of}

abbrev pub or_last : {A : Type 0} → May A → May A → May A
or_last old absent = old
or_last old (is a) = is a

-- none or one
abbrev pub found : {A : Type 0} → May A → List A
found absent = []
found (is a) = a ∷ []

module _ {A : Type 0} (f : Field → May A) (x : Field) where
  pub latest_one_more : (pre : List Field) → latest f (pre ++ x ∷ []) ≡ or_last (latest f pre) (f x)
  unfolding latest
  latest_one_more [] = go (f x)
    where
      go : (o : May A) → o ≡ or_last absent o
      go absent = refl
      go (is a) = refl
  latest_one_more (y ∷ pre) = rw (latest_one_more pre) (go (latest f pre) (f x))
    where
      go : (o p : May A) → elim (or_last o p) [ is a ↦ is a | absent ↦ f y ] ≡ or_last (elim o [ is a ↦ is a | absent ↦ f y ]) p
      go absent absent = refl
      go absent (is a) = refl
      go (is b) absent = refl
      go (is b) (is a) = refl

  pub every_one_more : (pre : List Field) → every f (pre ++ x ∷ []) ≡ every f pre ++ found (f x)
  unfolding every
  every_one_more [] = go (f x)
    where
      go : (o : May A) → elim o [ is a ↦ a ∷ [] | absent ↦ [] ] ≡ found o
      go absent = refl
      go (is a) = refl
  every_one_more (y ∷ pre) = go (every f (pre ++ x ∷ [])) (every f pre) (every_one_more pre) (f y)
    where
      go : (xs ys : List A) → xs ≡ ys ++ found (f x) → (o : May A) → elim o [ is a ↦ a ∷ xs | absent ↦ xs ] ≡ elim o [ is a ↦ a ∷ ys | absent ↦ ys ] ++ found (f x)
      go xs ys e absent = e
      go xs ys e (is a) = rw e

texts_append : {A : Type 0} (g : A → List Piece) (xs ys : List A) → texts_of g (xs ++ ys) ≡ texts_of g xs ++ texts_of g ys
unfolding texts_of
texts_append g [] ys = refl
texts_append g (x ∷ xs) ys = rw (texts_append g xs ys) (sym (append_assoc (pieces_text (g x)) (texts_of g xs) (texts_of g ys)))

-- how many there are, and how long their texts are
module _ {A : Type 0} (f : Field → May A) (x : Field) (pre : List Field) where
  pub count_one_more : length (every f (pre ++ x ∷ [])) ≡ length (every f pre) + length (found (f x))
  count_one_more = rw (every_one_more f x pre) (length-append (every f pre) (found (f x)))

  pub bytes_one_more : (g : A → List Piece) → length (texts_of g (every f (pre ++ x ∷ []))) ≡ length (texts_of g (every f pre)) + length (texts_of g (found (f x)))
  bytes_one_more g = rw (every_one_more f x pre, texts_append g (every f pre) (found (f x))) (length-append (texts_of g (every f pre)) (texts_of g (found (f x))))

abbrev pub there : {A : Type 0} → May A → Bool
there absent = false
there (is a) = true

-- there is a last one where there is one
pub last_there : {A : Type 0} (f : Field → May A) (fs : List Field) → ltb 0 (length (every f fs)) ≡ there (latest f fs)
unfolding latest every
last_there f [] = refl
last_there {A} f (x ∷ fs) = go (latest f fs) (every f fs) (last_there f fs) (f x)
  where
    go : (o : May A) (xs : List A) → ltb 0 (length xs) ≡ there o → (p : May A) → ltb 0 (length {A = A} (elim p [ is a ↦ a ∷ xs | absent ↦ xs ])) ≡ there {A = A} (elim o [ is a ↦ is a | absent ↦ p ])
    go absent xs e absent = e
    go absent xs e (is a) = lt-ltb 0 (suc (length xs)) (omega arith)
    go (is b) xs e absent = e
    go (is b) xs e (is a) = lt-ltb 0 (suc (length xs)) (omega arith)
