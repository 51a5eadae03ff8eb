-- EVERY HEADER ENTRY with the public columns is read as its text: the first line's and those that go on at column 13, joined.
use Rattle.std.specs.Prelude.{ℕ, suc, ◌+◌, ◌-◌, ◌<◌, Bool, true, false, not, ◌≡◌, refl, List, [], ◌∷◌, ◌++◌, length}
use Rattle.std.proofs.Common.{arith, append_assoc, lit<}
use Rattle.spec_format.specs.Bytes.{bytes, spaces, starts, all, each, visible, space, but}
use Rattle.spec_format.specs.Utf8.{utf8}
use Rattle.spec_format.specs.Readers.{got, no, tag}
use Rattle.spec_format.specs.Header.{line_after, concat_lines, field_bytes, field}
use Rattle.spec_format.specs.Location.{locates}
use Rattle.spec_format.specs.Record.{contig_of, contig}
use Rattle.spec_public.specs.Public.{entry_columns, continued}
use Rattle.spec_location.specs.Bytes.{locates_visible}
use Rattle.spec_texts_back.specs.Tests.{and_both, all_head, all_tail, all_left, all_right, all_imp}
use Rattle.spec_texts_back.specs.Pieces.{no_end, visible_no_end, visible_but}
use Rattle.spec_texts_back.specs.FieldBack.{Lines, joined_line, text_end, text_line, text_pass, bytes_steps}
use Rattle.spec_columns_back.specs.Further.{ended, further, furthers_are, further_first}
use Rattle.spec_columns_back.specs.EntryRead.{line_is}

module _ (n : ℕ) (keep : Bool) (rest : List ℕ) (stops : tag (spaces n) rest ≡ no) where
  lines_read :
      (l : List ℕ) (ms : List (List ℕ)) → all no_end l ≡ true → all (all no_end) ms ≡ true →
      Lines n keep (l ++ 10 ∷ (each (further n) ms ++ rest)) (concat_lines keep l ms) rest
  lines_read l [] h k = text_pass n keep l (10 ∷ rest) [] rest h (text_end n keep rest stops)
  lines_read l (m ∷ ms) h k =
      let x : List ℕ = m ++ 10 ∷ (each (further n) ms ++ rest) in
      let ih : Lines n keep x (concat_lines keep m ms) rest = lines_read m ms (all_head (all no_end) m ms k) (all_tail (all no_end) m ms k) in
      rw (further_first n m ms rest, joined_line keep m ms)
      (text_pass n keep l (10 ∷ (spaces n ++ x)) (line_after keep (concat_lines keep m ms)) rest h (text_line n keep x (concat_lines keep m ms) rest ih))

text_starts : (t x : List ℕ) → not (starts space t) ≡ true → starts (but 32) (t ++ 10 ∷ x) ≡ true
text_starts [] x h = refl
text_starts (b ∷ t) x h = h

lines_group : (i w g t e m r : List ℕ) → ((i ++ (w ++ (g ++ t))) ++ e) ++ m ++ r ≡ i ++ (w ++ (g ++ (t ++ (e ++ (m ++ r)))))
lines_group i w g t e m r = simp append_assoc

bytes_read :
    (indent : ℕ) (word t line : List ℕ) (ms lines : List (List ℕ)) (keep : Bool) (rest : List ℕ) → entry_columns (suc indent) word t line ≡ true →
    continued 13 ms lines ≡ true → indent + length word < 12 → not (starts space t) ≡ true → all no_end t ≡ true → all (all no_end) ms ≡ true →
    tag (spaces 12) rest ≡ no → field_bytes indent word keep (each ended (line ∷ lines) ++ rest) ≡ got (concat_lines keep t ms) rest
bytes_read indent word t line ms lines keep rest h c k s n o stops =
    let g : ℕ = 11 - (indent + length word) in
    let e : indent + suc g + length word ≡ 12 = omega arith in
    let x : List ℕ = t ++ 10 ∷ (each (further 12) ms ++ rest) in
    rw (
      line_is indent word t line k h,
      furthers_are 12 ms lines c,
      lines_group (spaces indent) word (spaces (suc g)) t (10 ∷ []) (each (further 12) ms) rest,
    ) (bytes_steps indent g word x (concat_lines keep t ms) rest keep e (text_starts t _ s) (lines_read 12 keep rest stops t ms n o))

-- AN ENTRY WITH THE PUBLIC COLUMNS is read; at least a blank stands after its word, and none before its text
pub entry_read :
    (indent : ℕ) (word t line : List ℕ) (ms lines : List (List ℕ)) (keep : Bool) (rest : List ℕ) → entry_columns (suc indent) word t line ≡ true →
    continued 13 ms lines ≡ true → indent + length word < 12 → not (starts space t) ≡ true → all no_end t ≡ true → all (all no_end) ms ≡ true →
    utf8 (concat_lines keep t ms) ≡ true → tag (spaces 12) rest ≡ no →
    field indent word keep (each ended (line ∷ lines) ++ rest) ≡ got (concat_lines keep t ms) rest
unfolding field
entry_read indent word t line ms lines keep rest h c k s n o u stops = rw (bytes_read indent word t line ms lines keep rest h c k s n o stops, u)

-- lines that join to a text of bytes 33 to 126
parts_line : (ms : List (List ℕ)) → all visible (each (line_after false) ms) ≡ true → all (all no_end) ms ≡ true
parts_line [] h = refl
parts_line (m ∷ ms) h =
    let x : List ℕ = each (line_after false) ms in
    and_both (all no_end m) _ (all_imp visible no_end visible_no_end m (all_left visible m x h)) (parts_line ms (all_right visible m x h))

no_space : (t : List ℕ) → all visible t ≡ true → not (starts space t) ≡ true
no_space [] h = refl
no_space (b ∷ t) h = visible_but b (all_head visible b t h)

-- SO IS CONTIG, its lines joined by nothing, with the rows of its text
pub contig_read_lem :
    (t line : List ℕ) (ms lines : List (List ℕ)) (rest : List ℕ) → entry_columns 1 (bytes "CONTIG") t line ≡ true → continued 13 ms lines ≡ true →
    locates true (concat_lines false t ms) ≡ true → tag (spaces 12) rest ≡ no →
    contig (each ended (line ∷ lines) ++ rest) ≡ got (contig_of (concat_lines false t ms)) rest
contig_read_lem t line ms lines rest h c u stops =
    let x : List ℕ = each (line_after false) ms in
    let v : all visible (t ++ x) ≡ true = locates_visible true (t ++ x) u in
    let w : all visible t ≡ true = all_left visible t x v in
    rw (
      bytes_read 0 (bytes "CONTIG") t line ms lines false rest h c (lit< tt) (no_space t w) (all_imp visible no_end visible_no_end t w)
          (parts_line ms (all_right visible t x v)) stops,
      u,
    )
