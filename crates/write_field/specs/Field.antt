-- A header field: the columns of its word, and how long its lines can become.
use Rattle.std.specs.Prelude.{◌≡◌, ℕ, ◌+◌, ◌-◌, ◌*◌, ◌≤◌, false, List, ◌++◌, length}
use Rattle.std.proofs.Common.{arith, length-append}
use Rattle.std.proofs.lemmas.List.{length-replicate}
use Rattle.spec_format.specs.Bytes.{spaces}
use Rattle.spec_format.specs.Wrap.{wrapped, wrap_text}
use Rattle.spec_format.specs.Write.{padded, field_lines}
use Rattle.write_wrap_text.specs.Bound.{text_length_lem}

length_padded : (n : ℕ) (w : List ℕ) → length w ≤ n → length (padded n w) ≡ n
length_padded n w h = omega (arith, length-append w (spaces (n - length w)), length-replicate {A = ℕ} (n - length w) 32)

pub field_is : (W : ℕ) (w t : List ℕ) → length w ≤ 12 → padded 12 w ++ wrapped false W 12 12 t ≡ field_lines W w t
unfolding field_lines wrap_text
field_is W w t h = rw (length_padded 12 w h)

pub field_length : (W : ℕ) (w t : List ℕ) → length w ≤ 12 → length (field_lines W w t) ≤ 24 * length t + 37
unfolding field_lines
field_length W w t h = omega (arith, text_length_lem W (padded 12 w) 12 false t (omega arith), length_padded 12 w h)
