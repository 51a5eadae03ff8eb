-- The lines of a feature: the columns of what stands before a text, and how long the lines can become.
use Rattle.std.specs.Prelude.{◌≡◌, ℕ, ◌+◌, ◌-◌, ◌*◌, ◌≤◌, Bool, true, false, List, [], ◌∷◌, ◌++◌, length}
use Rattle.std.proofs.Common.{arith, add-one, length-append}
use Rattle.std.proofs.lemmas.List.{length-replicate}
use Rattle.spec_format.specs.Bytes.{pick, bytes, spaces}
use Rattle.spec_format.specs.Wrap.{wrapped, wrap_text, comma_lines, wrap_location}
use Rattle.spec_format.specs.Write.{padded, comma_key, bare_key, key_text, quotes, value_lines}
use Rattle.write_wrap_text.specs.Bound.{text_length_lem}
use Rattle.write_wrap_location.specs.Commas.{location_length}

-- what stands before a feature's location
abbrev pub feature_start : List ℕ → List ℕ
feature_start kind = spaces 5 ++ padded 15 kind ++ bytes " "

pub start_length : (kind : List ℕ) → length (feature_start kind) ≡ 6 + length kind + (15 - length kind)
start_length kind =
    omega (
      arith,
      length-append (spaces 5 ++ padded 15 kind) (bytes " "),
      length-append (spaces 5) (padded 15 kind),
      length-append kind (spaces (15 - length kind)),
      length-replicate {A = ℕ} (15 - length kind) 32,
    )

-- what stands before a value
abbrev value_start : List ℕ → List ℕ
value_start k = key_text k ++ bytes "="

value_start_length : (k : List ℕ) → length (value_start k) ≡ 23 + length k
value_start_length k = omega (arith, length-append (key_text k) (bytes "="), length-append (spaces 21 ++ bytes "/") k)

-- a value by the code's tests
pub value_comma : (W : ℕ) (k v : List ℕ) → comma_key k ≡ true → value_start k ++ comma_lines (length v) W 21 (23 + length k) v ≡ value_lines W k v
unfolding value_lines wrap_location
value_comma W k v h = rw (h, value_start_length k)

pub value_bare : (W : ℕ) (k v : List ℕ) → comma_key k ≡ false → bare_key k ≡ true → value_start k ++ wrapped false W 21 (23 + length k) v ≡ value_lines W k v
unfolding value_lines wrap_text
value_bare W k v h b = rw (h, b, value_start_length k)

pub value_quoted : (W : ℕ) (k v : List ℕ) → comma_key k ≡ false → bare_key k ≡ false
    → value_start k ++ 34 ∷ [] ++ wrapped true W 21 (23 + length k + 1) v ≡ value_lines W k v
unfolding value_lines wrap_text
value_quoted W k v h b = rw (h, b, value_start_length k, add-one (23 + length k))

-- ---- lengths: linear in the texts'
pub value_length : (W : ℕ) (k v : List ℕ) → length (value_lines W k v) ≤ length k + 24 * length v + 48
unfolding value_lines
value_length W k v = by (comma_key k)
  where
    by : (b : Bool) → length (pick b (wrap_location W (value_start k) 21 v) (wrap_text W (value_start k) 21 (quotes k) v)) ≤ length k + 24 * length v + 48
    by true = omega (arith, location_length W (value_start k) 21 v (omega arith), value_start_length k)
    by false = omega (arith, text_length_lem W (value_start k) 21 (quotes k) v (omega arith), value_start_length k)

pub feature_length : (W : ℕ) (kind location : List ℕ) → length (wrap_location W (feature_start kind) 21 location) ≤ length kind + 23 * length location + 22
feature_length W kind location = omega (arith, location_length W (feature_start kind) 21 location (omega arith), start_length kind)

pub contig_length : (W : ℕ) (contig : List ℕ) → length (wrap_location W (bytes "CONTIG      ") 12 contig) ≤ 23 * length contig + 13
contig_length W contig = omega (arith, location_length W (bytes "CONTIG      ") 12 contig (omega arith))

-- a feature's first line, as the code counts its columns
pub feature_is : (W : ℕ) (kind location : List ℕ) (n : ℕ) → n ≡ 6 + length kind + (15 - length kind)
    → feature_start kind ++ comma_lines (length location) W 21 n location ≡ wrap_location W (feature_start kind) 21 location
unfolding wrap_location
feature_is W kind location n e = rw (e, start_length kind)
