-- A qualifier stands from column 22 on and goes on there: one without a value, one broken at commas, a bare one, and one in quotes, which is presented as the
-- INSDC feature table presents a value: inner quotes doubled, over lines that are the value's own but for one space or LF that a break may leave out.
use Rattle.std.specs.Prelude.{ℕ, suc, ◌+◌, ◌-◌, ◌<◌, true, false, ◌≡◌, refl, List, [], ◌∷◌, ◌++◌, length}
use Rattle.std.proofs.Common.{arith, sym, ap, ◌∙◌, append_assoc, length-append}
use Rattle.spec_format.specs.Bytes.{bytes}
use Rattle.spec_format.specs.Wrap.{wrap_text}
use Rattle.spec_format.specs.Write.{comma_key, bare_key, key_text, value_lines}
use Rattle.spec_public.specs.Public.{doubled, presented_lines, presented}
use Rattle.spec_columns.specs.Lines.{text_lines, Laid, laid}
use Rattle.spec_columns.specs.CommaLines.{BrokenLines}
use Rattle.spec_columns.proofs.CommaLines.{location_lines}
use Rattle.spec_columns.specs.TextLines.{Presents}
use Rattle.spec_columns.proofs.TextLines.{wrapped_presents}
use Rattle.spec_columns.specs.QualifierLines.{value_text, value_columns, at_22, closed_line, closed_lines}

value_start_lem : (k text : List ℕ) → value_columns k text (key_text k ++ bytes "=" ++ text) ≡ true
value_start_lem k text = at_22 (value_text k text) (key_text k ++ bytes "=" ++ text) (simp append_assoc)

key_length : (k : List ℕ) → length (key_text k ++ bytes "=") ≡ 23 + length k
key_length k = simp length-append (omega arith)

-- the keys anticodon and transl_except: the value is broken like a location, with what the key leaves of the first line
pub comma_columns :
    (W : ℕ) (k v : List ℕ) → 23 + length k < W → comma_key k ≡ true →
    BrokenLines (value_columns k) 22 (W - (23 + length k)) (W - 21) v (value_lines W k v)
unfolding value_lines
comma_columns W k v h c =
    let e : length (key_text k ++ bytes "=") ≡ 23 + length k = key_length k in
    rw c (rw e at (location_lines (value_columns k) W 21 (key_text k ++ bytes "=") v (omega arith) (omega arith) (value_start_lem k)))

-- a bare value: its lines are its own but for one space or LF at each break
pub bare_columns :
    (W : ℕ) (k v : List ℕ) → 22 < W → comma_key k ≡ false → bare_key k ≡ true →
    (line : List ℕ) × (lines : List (List ℕ)) × Laid (value_columns k) 22 line lines (value_lines W k v) × Presents false v line lines
unfolding value_lines wrap_text
bare_columns W k v h c b =
    let start : List ℕ = key_text k ++ bytes "=" in
    let p = wrapped_presents false W 21 (length start) v h in
    (p.line, p.lines, rw (c, b, p.is) (laid (value_columns k) 21 start p.line p.lines (value_start_lem k p.line)), p.presents)

-- ---- in quotes

presented_lines_lem : (indent : ℕ) (l : List ℕ) (ms : List (List ℕ)) → presented_lines indent l ms ≡ text_lines indent (closed_line l ms) (closed_lines ms)
unfolding presented_lines text_lines
presented_lines_lem indent l [] = sym (append_assoc (doubled l) (34 ∷ []) (10 ∷ []))
presented_lines_lem indent l (m ∷ ms) = rw (presented_lines_lem indent m ms)

quote_first : (indent : ℕ) (m : List ℕ) (ms : List (List ℕ)) → 34 ∷ text_lines indent m ms ≡ text_lines indent (34 ∷ m) ms
unfolding text_lines
quote_first indent m [] = refl
quote_first indent m (l ∷ ls) = refl

presented_quoted : (indent : ℕ) (l : List ℕ) (ms : List (List ℕ)) → presented indent l ms ≡ text_lines indent (34 ∷ closed_line l ms) (closed_lines ms)
unfolding presented
presented_quoted indent l ms = ap (λ (x : List ℕ). 34 ∷ x) (presented_lines_lem indent l ms) ∙ quote_first indent (closed_line l ms) (closed_lines ms)

-- a quoted value: what is written presents it, with its opening quote after `=`; the first line has all this from column 22 on, and it goes on there
pub quoted_columns :
    (W : ℕ) (k v : List ℕ) → 22 < W → comma_key k ≡ false → bare_key k ≡ false →
    (l : List ℕ) × (ms : List (List ℕ)) × (value_lines W k v ≡ key_text k ++ bytes "=" ++ presented 21 l ms) × Presents true v l ms ×
    Laid (value_columns k) 22 (34 ∷ closed_line l ms) (closed_lines ms) (value_lines W k v)
unfolding value_lines wrap_text presented
quoted_columns W k v h c b =
    let start : List ℕ = key_text k ++ bytes "=" in
    let p = wrapped_presents true W 21 (suc (length start)) v h in
    let l : List ℕ = p.line in
    let ms : List (List ℕ) = p.lines in
    let e : value_lines W k v ≡ start ++ presented 21 l ms = rw (c, b, p.is) (append_assoc start (34 ∷ []) (presented_lines 21 l ms)) in
    let g : value_lines W k v ≡ start ++ text_lines 21 (34 ∷ closed_line l ms) (closed_lines ms) = rw (presented_quoted 21 l ms) at e in
    (l, ms, e, p.presents, rw g (laid (value_columns k) 21 start (34 ∷ closed_line l ms) (closed_lines ms) (value_start_lem k (34 ∷ closed_line l ms))))
