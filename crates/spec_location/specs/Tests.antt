-- Facts out of tests that passed: conjunctions, and tests of each byte.
use Rattle.std.specs.Prelude.{ℕ, Bool, true, false, ◌&&◌, ◌||◌, ◌≡◌, refl, List, [], ◌∷◌, ◌++◌}
use Rattle.spec_format.specs.Bytes.{all}

pub and_left : (x y : Bool) → (x && y) ≡ true → x ≡ true
and_left true y e = refl
and_left false y e = e

pub and_right : (x y : Bool) → (x && y) ≡ true → y ≡ true
and_right true y e = e
and_right false true e = refl
and_right false false e = e

-- whichever of the two it was that passed
pub or_either : {C : Type 0} (x y : Bool) → (x || y) ≡ true → (x ≡ true → C) → (y ≡ true → C) → C
or_either true y e f g = f refl
or_either false y e f g = g e

pub all_head : {A : Type 0} (p : A → Bool) (b : A) (t : List A) → all p (b ∷ t) ≡ true → p b ≡ true
all_head p b t h = and_left (p b) (all p t) h

pub all_tail : {A : Type 0} (p : A → Bool) (b : A) (t : List A) → all p (b ∷ t) ≡ true → all p t ≡ true
all_tail p b t h = and_right (p b) (all p t) h

pub all_append : (p : ℕ → Bool) (s t : List ℕ) → all p s ≡ true → all p t ≡ true → all p (s ++ t) ≡ true
all_append p [] t h k = k
all_append p (b ∷ s) t h k = cc (all_head p b s h, all_append p s t (all_tail p b s h) k)

pub all_imp : (p q : ℕ → Bool) → ((b : ℕ) → p b ≡ true → q b ≡ true) → (t : List ℕ) → all p t ≡ true → all q t ≡ true
all_imp p q f [] h = refl
all_imp p q f (b ∷ t) h = cc (f b (all_head p b t h), all_imp p q f t (all_tail p b t h))
