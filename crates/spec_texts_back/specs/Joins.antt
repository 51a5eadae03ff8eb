-- Loops over what was written: texts that are joined, and members that stand one after the other.
use Rattle.std.specs.Prelude.{ℕ, Bool, true, ◌≡◌, List, [], ◌∷◌, ◌++◌}
use Rattle.std.proofs.Common.{◌∙◌, append_assoc}
use Rattle.spec_format.specs.Bytes.{all, each, concat}
use Rattle.spec_format.specs.Readers.{Ans, got, no, cut, bind, mapped, Turn, more, stop, loop}
use Rattle.spec_loops.specs.Loops.{Shrinks, loop_stop}
use Rattle.spec_loops.proofs.Loops.{loop_more}
use Rattle.spec_texts_back.specs.Tests.{all_head, all_tail}

-- the members' texts as one
unfoldable pub joining : (List ℕ → Ans (Turn (List ℕ))) → List ℕ → Ans (List ℕ)
joining turn s = mapped concat (loop turn s)

mapped_concat : (a t r : List ℕ) (o : Ans (List (List ℕ))) → mapped concat o ≡ got t r → mapped concat (mapped (λ l. a ∷ l) o) ≡ got (a ++ t) r
mapped_concat a t r (got l z) h = cc
mapped_concat a t r no h = cc
mapped_concat a t r cut h = cc

module _ (turn : List ℕ → Ans (Turn (List ℕ))) where
  pub joining_more : Shrinks turn → (s a z t r : List ℕ) → turn s ≡ got (more a) z → joining turn z ≡ got t r → joining turn s ≡ got (a ++ t) r
  unfolding joining
  joining_more small s a z t r e h = rw (loop_more turn small s a z e) (mapped_concat a t r (loop turn z) h)

  pub joining_stop : (s r : List ℕ) → turn s ≡ got stop r → joining turn s ≡ got [] r
  unfolding joining
  joining_stop s r e = rw (loop_stop turn s r e)

  pub joining_parts : (f : List ℕ) (s t r : List ℕ) (g : List (List ℕ) → List ℕ) → ((l : List (List ℕ)) → g l ≡ f ++ concat l) →
      joining turn s ≡ got t r → bind (loop turn s) (λ l z. got (g l) z) ≡ got (f ++ t) r
  unfolding joining
  joining_parts f s t r g e h = go (loop turn s) h
    where
      go : (o : Ans (List (List ℕ))) → mapped concat o ≡ got t r → bind o (λ l z. got (g l) z) ≡ got (f ++ t) r
      go (got l z) h = cc (e l)
      go no h = cc
      go cut h = cc

-- each member is read back where what follows it is as `follow` says
module _
    {A : Type 0} (turn : List ℕ → Ans (Turn A)) (small : Shrinks turn) (w : A → List ℕ) (good : A → Bool) (follow : List ℕ → Bool)
    (back : (x : A) (s : List ℕ) → good x ≡ true → follow s ≡ true → turn (w x ++ s) ≡ got (more x) s)
    (on : (x : A) (s : List ℕ) → good x ≡ true → follow (w x ++ s) ≡ true) (rest : List ℕ) (fine : follow rest ≡ true) where
  pub each_follow : (xs : List A) → all good xs ≡ true → follow (each w xs ++ rest) ≡ true
  each_follow [] g = fine
  each_follow (x ∷ xs) g = rw append_assoc (on x (each w xs ++ rest) (all_head good x xs g))

  pub each_back : turn rest ≡ got stop rest → (xs : List A) → all good xs ≡ true → loop turn (each w xs ++ rest) ≡ got xs rest
  each_back e [] g = loop_stop turn rest rest e
  each_back e (x ∷ xs) g =
      let t : List ℕ = each w xs ++ rest in
      let gs : all good xs ≡ true = all_tail good x xs g in
      let b : turn (w x ++ t) ≡ got (more x) t = back x t (all_head good x xs g) (each_follow xs gs) in
      rw append_assoc (loop_more turn small (w x ++ t) x t b ∙ rw (each_back e xs gs))
