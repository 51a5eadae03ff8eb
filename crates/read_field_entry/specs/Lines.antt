-- Laws of further lines, and of a text made of its first line and of them.
use Rattle.std.specs.Prelude.{ℕ, ◌≡◌, refl, Bool, List, [], ◌∷◌, ◌++◌, drop}
use Rattle.std.proofs.Common.{ap, ◌∙◌, subst}
use Rattle.spec_format.specs.Bytes.{each}
use Rattle.spec_format.specs.Readers.{Ans, got, no, cut, bind, mapped, line, many0}
use Rattle.spec_format.specs.Header.{line_after, concat_lines, further_line, field_text}
use Rattle.spec_loops.specs.Loops.{many0_stop, many0_cut}
use Rattle.spec_loops.proofs.Loops.{many0_more}
use Rattle.spec_loops.proofs.Shrinks.{further_small}
use Rattle.scan_bytes.specs.Places.{part}
use Rattle.read_field_entry.specs.declared.Piece.{Piece}
use Rattle.read_field_entry.specs.declared.Piece.TheVariants as piece
use Rattle.read_field_entry.specs.Texts.{further, Pieced, PastPiece}

pub piece_places : {s : List ℕ} {at : ℕ} {o : Ans (List ℕ)} {r : Piece} {f e n : ℕ} → Pieced s at o r → r ≡ piece.Got f e n → PastPiece s at (piece.Got f e n)
piece_places {s} {at} h q = subst (λ (x : Piece). PastPiece s at x) q h.place

pub piece_is : {s : List ℕ} {at : ℕ} {o : Ans (List ℕ)} {r : Piece} {f e n : ℕ} → Pieced s at o r → r ≡ piece.Got f e n → o ≡ got (part f e s) (drop n s)
piece_is h q = rw (← h.is, q)

pub piece_is_no : {s : List ℕ} {at : ℕ} {o : Ans (List ℕ)} {r : Piece} → Pieced s at o r → r ≡ piece.No → o ≡ no
piece_is_no h q = rw (← h.is, q)

pub piece_is_cut : {s : List ℕ} {at : ℕ} {o : Ans (List ℕ)} {r : Piece} → Pieced s at o r → r ≡ piece.Cut → o ≡ cut
piece_is_cut h q = rw (← h.is, q)

-- ---- further lines

join : (keep : Bool) (o : Ans (List (List ℕ))) (l : List ℕ)
    → mapped (each (line_after keep)) (mapped (λ t. l ∷ t) o) ≡ mapped (λ m. line_after keep l ++ m) (mapped (each (line_after keep)) o)
join keep (got t r) l = refl
join keep no l = refl
join keep cut l = refl

module _ (n : ℕ) (keep : Bool) (xs : List ℕ) where
  pub further_more : (l ys : List ℕ) → further_line n xs ≡ got l ys → further n keep xs ≡ mapped (λ m. line_after keep l ++ m) (further n keep ys)
  further_more l ys e = ap (mapped (each (line_after keep))) (many0_more (further_line n) (further_small n) xs l ys e) ∙ join keep (many0 (further_line n) ys) l

  pub further_stop : further_line n xs ≡ no → further n keep xs ≡ got [] xs
  further_stop e = ap (mapped (each (line_after keep))) (many0_stop (further_line n) xs e)

  pub further_cut : further_line n xs ≡ cut → further n keep xs ≡ cut
  further_cut e = ap (mapped (each (line_after keep))) (many0_cut (further_line n) xs e)

pub text_further : (n : ℕ) (keep : Bool) (xs first ys : List ℕ) → line xs ≡ got first ys → field_text n keep xs ≡ mapped (λ m. first ++ m) (further n keep ys)
unfolding field_text
text_further n keep xs first ys e = rw e (go (many0 (further_line n) ys))
  where
    go : (o : Ans (List (List ℕ))) → bind o (λ rest z. got (concat_lines keep first rest) z) ≡ mapped (λ m. first ++ m) (mapped (each (line_after keep)) o)
    go (got t r) = refl
    go no = refl
    go cut = refl
