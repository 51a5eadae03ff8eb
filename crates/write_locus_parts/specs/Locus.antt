-- Parts of the LOCUS line: the date's three parts, and the molecule type.
use Rattle.std.specs.Prelude.{◌≡◌, refl, ℕ, zero, suc, ◌+◌, ◌-◌, ◌*◌, ◌/◌, ◌%◌, ◌≤◌, ◌<◌, true, List, [], ◌∷◌, length, take, drop}
use Rattle.std.proofs.Common.{sym, arith, lt-ltb, le-ltb}
use Rattle.std.proofs.Math.ListN.{get_or-eq_default}
use Rattle.spec_format.specs.Bytes.{bytes, spaces, is}
use Rattle.spec_format.specs.Dates.{months, month_name}
use Rattle.spec_format.specs.Write.{padded, molecule_text}

abbrev pub day_text : ℕ → List ℕ
day_text d = (48 + d / 10) ∷ (48 + d % 10) ∷ 45 ∷ []

abbrev pub year_text : ℕ → List ℕ
year_text y = 45 ∷ (48 + y / 10 / 10 / 10) ∷ (48 + y / 10 / 10 % 10) ∷ (48 + y / 10 % 10) ∷ (48 + y % 10) ∷ []

-- the months' names one after the other
abbrev pub month_names : List ℕ
month_names = bytes "JANFEBMARAPRMAYJUNJULAUGSEPOCTNOVDEC"

pub month_is : (m : ℕ) → m ≤ 12 → take 3 (drop ((m - 1) * 3) month_names) ≡ month_name m
unfolding month_name
month_is zero h = refl
month_is (suc zero) h = refl
month_is (suc (suc zero)) h = refl
month_is (suc (suc (suc zero))) h = refl
month_is (suc (suc (suc (suc zero)))) h = refl
month_is (suc (suc (suc (suc (suc zero))))) h = refl
month_is (suc (suc (suc (suc (suc (suc zero)))))) h = refl
month_is (suc (suc (suc (suc (suc (suc (suc zero))))))) h = refl
month_is (suc (suc (suc (suc (suc (suc (suc (suc zero)))))))) h = refl
month_is (suc (suc (suc (suc (suc (suc (suc (suc (suc zero))))))))) h = refl
month_is (suc (suc (suc (suc (suc (suc (suc (suc (suc (suc zero)))))))))) h = refl
month_is (suc (suc (suc (suc (suc (suc (suc (suc (suc (suc (suc zero))))))))))) h = refl
month_is (suc (suc (suc (suc (suc (suc (suc (suc (suc (suc (suc (suc zero)))))))))))) h = refl
month_is (suc (suc (suc (suc (suc (suc (suc (suc (suc (suc (suc (suc (suc m))))))))))))) h = absurd (omega arith)

pub molecule_long : (m : List ℕ) → 7 < length m → spaces 7 ≡ padded 7 (molecule_text true (is m))
molecule_long m h = rw (lt-ltb 7 (length m) h)

pub molecule_short : (m : List ℕ) → length m ≤ 7 → padded 7 m ≡ padded 7 (molecule_text true (is m))
molecule_short m h = rw (le-ltb 7 (length m) h)

pub month_none : (m : ℕ) → 12 < m → [] ≡ month_name m
unfolding month_name
month_none m h = sym (get_or-eq_default months [] {n = m - 1} (omega arith))
