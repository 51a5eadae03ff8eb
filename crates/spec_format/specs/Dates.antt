-- Dates: their range, the one that is printed where there is none, and how one is printed.
use Rattle.std.specs.Prelude.{ℕ, ◌+◌, ◌-◌, ◌/◌, ◌%◌, Bool, List, [], ◌∷◌, ◌++◌, get_or, ltb, Option, Some, None, is_some, unwrap_or}
use Rattle.spec_format.specs.Bytes.{bytes, pick}
use Rattle.spec_format.specs.declared.Date.{Date}

-- day 1 to 31, month 1 to 12, year 0 to 9999
abbrev pub made : ℕ → ℕ → ℕ → Option Date
made d m y =
    pick (ltb d 1) None (pick (ltb 31 d) None (pick (ltb m 1) None (pick (ltb 12 m) None (pick (ltb 9999 y) None
    (Some (record { day = d; month = m; year = y }))))))

abbrev pub is_date : Option Date → Bool
is_date d = is_some d

-- "a record without a date prints 01-JAN-1970"
abbrev pub first_date : Date
first_date = record { day = 1; month = 1; year = 1970 }

abbrev pub printed_date : Option Date → Date
printed_date d = unwrap_or d first_date

abbrev pub months : List (List ℕ)
months =
    bytes "JAN" ∷ bytes "FEB" ∷ bytes "MAR" ∷ bytes "APR" ∷ bytes "MAY" ∷ bytes "JUN" ∷ bytes "JUL" ∷ bytes "AUG" ∷ bytes "SEP" ∷ bytes "OCT" ∷ bytes "NOV" ∷ bytes "DEC" ∷ []

unfoldable pub month_name : ℕ → List ℕ
month_name m = get_or months (m - 1) []

-- "Date prints as two digits, month, four digits": `Display for Date` of seq.rs
unfoldable pub date_text : Date → List ℕ
date_text d =
    (48 + d.day / 10) ∷ (48 + d.day % 10) ∷ 45 ∷ [] ++ month_name d.month ++
    45 ∷ (48 + d.year / 10 / 10 / 10) ∷ (48 + d.year / 10 / 10 % 10) ∷ (48 + d.year / 10 % 10) ∷ (48 + d.year % 10) ∷ []
