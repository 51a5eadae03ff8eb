-- How many bytes the letters take, as a formula: a space for each ten begun, and LF and nine columns for each line begun.
use Rattle.std.specs.Prelude.{◌≡◌, refl, ℕ, suc, ◌+◌, ◌*◌, ◌/◌, ◌%◌, ◌≤◌, ◌<◌, Bool, true, false, List, [], ◌∷◌, ◌++◌, eqb, length}
use Rattle.std.proofs.Common.{arith, add-zero, length-append, eqb-true}
use Rattle.std.proofs.lemmas.Bool.{eqb-false}
use Rattle.spec_format.specs.Bytes.{pick, decimal}
use Rattle.spec_format.specs.Write.{right_aligned, line_start, ten_start, letter_lines}
use Rattle.write_origin.specs.Number.{nine_length}
use Rattle.spec_format.specs.Record.{most}

abbrev pub letters_length : ℕ → ℕ
letters_length n = n + (n + 9) / 10 + 10 * ((n + 59) / 60) + 1

start_by : (i : ℕ) → i < most → (x : Bool) → eqb (i % 60) 0 ≡ x
    → length (pick x (10 ∷ [] ++ right_aligned 9 (decimal (suc i))) []) + 10 * ((i + 59) / 60) ≡ 10 * ((suc i + 59) / 60)
start_by i h true e =
    omega (
      arith,
      length-append {A = ℕ} (10 ∷ []) (right_aligned 9 (decimal (suc i))),
      nine_length (suc i) (omega arith) (omega arith),
      eqb-true (i % 60) 0 e,
    )
start_by i h false e = omega (arith, eqb-false (i % 60) 0 e)

space_by : (i : ℕ) (x : Bool) → eqb (i % 10) 0 ≡ x → length {A = ℕ} (pick x (32 ∷ []) []) + (i + 9) / 10 ≡ (suc i + 9) / 10
space_by i true e = omega (arith, eqb-true (i % 10) 0 e)
space_by i false e = omega (arith, eqb-false (i % 10) 0 e)

-- one letter: what stands before it, itself, and the rest
one_more : (x s k r i a b a' b' m : ℕ) → x ≡ s + k + 1 + r → s + 10 * b ≡ 10 * b' → k + a ≡ a' → r + (suc i + a' + 10 * b' + 1) ≡ m → x + (i + a + 10 * b + 1) ≡ m
one_more x s k r i a b a' b' m e f g h = omega arith

measured : (i : ℕ) (t : List ℕ) → i + length t ≤ most → length (letter_lines i t) + letters_length i ≡ letters_length (i + length t) + 1
unfolding letter_lines
measured i [] h = rw (add-zero i) (omega arith)
measured i (b ∷ t) h =
    let e : i + suc (length t) ≡ suc i + length t = omega arith in
    let l : length (line_start i ++ ten_start i ++ b ∷ [] ++ letter_lines (suc i) t) ≡ length (line_start i) + length (ten_start i) + 1 + length (letter_lines (suc i) t) =
    simp length-append in
    rw e (one_more _ (length (line_start i)) (length (ten_start i)) _ i _ _ _ _ _ l (start_by i (omega arith) (eqb (i % 60) 0) refl)
    (space_by i (eqb (i % 10) 0) refl) (measured (suc i) t (omega arith)))

pub letters_measured : (t : List ℕ) → length t ≤ most → length (letter_lines 0 t) ≡ letters_length (length t)
letters_measured t h = omega (arith, measured 0 t (omega arith))
