-- Document 02, ticket 5, computed by one statement over a list: the text of ORIGIN is its line alone, and what follows is sequence. BASE COUNT and CONTIG keep their further lines.
use Prim.Native.Nat.{ℕ}
use mathlib.Core.Bool.{false}
use mathlib.Core.Path.{◌≡◌, refl}
use mathlib.Core.List.{List, [], ◌∷◌, ◌++◌, map}
use Rattle.spec_format.specs.Bytes.{bytes}
use Rattle.spec_format.specs.Utf8.{utf8, chars}
use Rattle.spec_format.specs.Readers.{Ans, got, no, cut, tag, until, line, line_end, members, members_up_to, end, end_up_to}
use Rattle.spec_format.specs.Header.{field_text, field_bytes, field}
use Rattle.spec_format.specs.Origin.{Letters, at_slash, at_end, bad_byte, origin_tag, letters}
use Rattle.spec_format.proofs.Examples.{Example}

-- the letters and what stands behind them; or what stands from a bad byte on
ends : Letters → List ℕ
ends (at_slash l s) = bytes "letters " ++ l ++ bytes ", then " ++ s
ends (at_end l) = bytes "letters " ++ l ++ bytes ", then the end"
ends (bad_byte s) = bytes "bad: " ++ s

from_origin : Ans (List ℕ) → List ℕ
from_origin (got text s) = ends (letters s)
from_origin no = bytes "no ORIGIN"
from_origin cut = bytes "cut"

-- a record from ORIGIN on
read : List ℕ → List ℕ
read s = from_origin (origin_tag s)

passed : Ans (List ℕ) → List ℕ
passed (got text s) = text ++ bytes ", then " ++ s
passed no = bytes "no entry"
passed cut = bytes "cut"

pub examples : List Example
examples =
    record { got = read (bytes "ORIGIN 1 bp upstream\n        1 acgt\n       61 ac\n//\n"); should = bytes "letters acgtac, then //\n" } ∷
    record { got = read (bytes "ORIGIN x\n       a/b\n//\n"); should = bytes "letters a, then /b\n//\n" } ∷
    record { got = read (bytes "ORIGIN x\n       a-b\n//\n"); should = bytes "bad: -b\n//\n" } ∷
    record { got = read (bytes "ORIGIN x\n       a" ++ 255 ∷ bytes "\n//\n"); should = bytes "bad: " ++ 255 ∷ bytes "\n//\n" } ∷
    record { got = read (bytes "ORIGIN x\n"); should = bytes "letters , then the end" } ∷
    record { got = read (bytes "ORIGIN x\n   "); should = bytes "letters , then the end" } ∷
    record { got = read (bytes "ORIGIN x\r\n        1 a\r\n//\n"); should = bytes "letters a, then //\n" } ∷
    record { got = read (bytes "ORIGIN \t\n        1 a\n//\n"); should = bytes "letters a, then //\n" } ∷
    record { got = read (bytes "ORIGIN \tx\n        1 a\n//\n"); should = bytes "letters a, then //\n" } ∷
    record { got = read (bytes "ORIGIN\tx\n        1 a\n//\n"); should = bytes "no ORIGIN" } ∷
    record { got = read (bytes "ORIGIN x\ry\n        1 a\n//\n"); should = bytes "no ORIGIN" } ∷
    record { got = read (bytes "ORIGIN " ++ 255 ∷ bytes "\n        1 a\n//\n"); should = bytes "no ORIGIN" } ∷
    record { got = read (bytes "ORIGIN x"); should = bytes "cut" } ∷
    record { got = read (bytes "ORIGIN x\r"); should = bytes "cut" } ∷
    record { got = passed (field 0 (bytes "BASE COUNT") false (bytes "BASE COUNT 1 a\n           2 c\nORIGIN\n")); should = bytes "1 a2 c, then ORIGIN\n" } ∷
    record { got = passed (field_bytes 0 (bytes "CONTIG") false (bytes "CONTIG join(A.1:1,\n       B.1:2)\n//\n")); should = bytes "join(A.1:1,B.1:2), then //\n" } ∷
    []

pub origin_line_holds : map (λ e. e.got) examples ≡ map (λ e. e.should) examples
unfolding examples ends from_origin read passed origin_tag letters field_text field_bytes field utf8 chars tag until line line_end members members_up_to end end_up_to
origin_line_holds = refl
