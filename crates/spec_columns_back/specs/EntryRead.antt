-- A header line with the public columns is its word and its text. That every entry is read as its text: proofs/EntryRead.antt.
use Rattle.std.specs.Prelude.{ℕ, suc, ◌+◌, ◌-◌, ◌<◌, true, ◌≡◌, List, ◌++◌, length}
use Rattle.std.proofs.Common.{arith, ap, ◌∙◌, append_assoc}
use Rattle.spec_format.specs.Bytes.{spaces}
use Rattle.spec_public.specs.Public.{entry_columns}
use Rattle.spec_columns_back.specs.Cells.{cell, last_cell}

pub line_is :
    (indent : ℕ) (word t line : List ℕ) → indent + length word < 12 → entry_columns (suc indent) word t line ≡ true →
    line ≡ spaces indent ++ (word ++ (spaces (suc (11 - (indent + length word))) ++ t))
line_is indent word t line k h =
    let e : suc indent - 1 ≡ indent = omega arith in
    let f : indent - 0 ≡ indent = omega arith in
    let w : 13 - suc indent ≡ 12 - indent = omega arith in
    let z : 0 + indent ≡ indent = omega arith in
    let y : indent + (12 - indent) ≡ 12 = omega arith in
    let g : 12 - indent - length word ≡ suc (11 - (indent + length word)) = omega arith in
    cell line 0 indent (spaces indent) _ _ (rw (e, e, f, w) at h) (λ h. rw z
    (cell line indent (12 - indent) (word ++ spaces (12 - indent - length word)) t _ h (λ h. rw y (last_cell line 12 t h)) ∙
    append_assoc word (spaces (12 - indent - length word)) t ∙ ap (λ (n : ℕ). word ++ (spaces n ++ t)) g))
