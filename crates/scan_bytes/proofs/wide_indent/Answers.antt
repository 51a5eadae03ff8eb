-- `scan_bytes::wide_indent` meets its contract. Assumes nothing.
use Rattle.std.proofs.Common.{arith}
use Rattle.scan_bytes.proofs.Scan.{both_ends, unindented}
use Rattle.std.proofs.lemmas.Bool.{not_from_true}
use Rattle.scan_bytes.proofs.wide_indent.Goals as goal

pub returns-then-n-lt16 : goal.returns-then-n-lt16
returns-then-n-lt16 c = unindented _ _ _

pub returns-then-s-at : goal.returns-then-s-at
returns-then-s-at c = unindented _ _ _

pub returns-then-n-gt32 : goal.returns-then-n-gt32
returns-then-n-gt32 c = unindented _ _ _

pub returns-then-not-sixteen_spaces : goal.returns-then-not-sixteen_spaces
returns-then-not-sixteen_spaces c = unindented _ _ _

pub returns : goal.returns
returns c =
    both_ends _ _ _ _ _ (omega arith) (omega arith) (omega arith) c.sixteen_spaces.ensures (not_from_true _ c.if-not-sixteen_spaces.false) c.sixteen_spaces-2.ensures
