-- THE GRAMMAR AND THE READING: a text has one reading or none, and it has one exactly if a proper tree prints it with 16 words open at most; the rows are that tree's.
use Rattle.std.specs.Prelude.{ℕ, ◌≤◌, Bool, true, ◌≡◌, refl, List, [], ◌∷◌, ◌++◌, length}
use Rattle.std.proofs.Common.{ap, ◌∙◌, sym, append-nil, arith}
use Rattle.spec_format.specs.Table.{LocationRow}
use Rattle.spec_format.specs.Location.{Found, found, fault, deep, location, one, whole, reading}
use Rattle.spec_format.specs.Impossible.{impossible}
use Rattle.spec_location.specs.Grammar.{Tree, printed, rows_at, proper, nested}
use Rattle.spec_location.specs.Printed.{nothing}
use Rattle.spec_location.proofs.Printed.{tree_read}
use Rattle.spec_location.specs.Parsed.{Parsed}
use Rattle.spec_location.proofs.Parsed.{location_is}
use Rattle.spec_location.specs.Unique.{PrintedBy}

-- what a tree prints is read as its rows
pub printed_reads : (gaps : Bool) (t : Tree) → proper gaps t ≡ true → nested t ≤ 16 → reading gaps (printed t) ≡ one (rows_at 0 t)
unfolding reading
printed_reads gaps t h d =
    let q : printed t ++ [] ≡ printed t = append-nil (printed t) in
    let e : location gaps (length (printed t)) 16 (printed t) ≡ found (rows_at 0 t) [] = rw q at (tree_read t gaps h (length (printed t)) 16 0 [] d nothing (rw q (omega arith))) in
    ap whole e

-- and nothing else is read
pub reads_printed : (gaps : Bool) (x : List ℕ) (rows : List LocationRow) → reading gaps x ≡ one rows → PrintedBy gaps x rows
unfolding reading
reads_printed gaps x rows h = go (location gaps (length x) 16 x) refl h
  where
    go : (o : Found (List LocationRow)) → location gaps (length x) 16 x ≡ o → whole o ≡ one rows → PrintedBy gaps x rows
    go (found l []) e f =
        let p : Parsed gaps (length x) 16 x l [] = location_is gaps (length x) 16 x l [] e in
        let u : l ≡ rows = cc in
        record {
          tree = p.tree;
          text = sym (p.is ∙ append-nil (printed p.tree));
          fine = p.fine;
          depth = p.depth;
          rows_are = sym u ∙ p.rows_are 0 (omega arith);
        }
    go (found l (b ∷ z)) e f = impossible cc
    go fault e f = impossible cc
    go deep e f = impossible cc
