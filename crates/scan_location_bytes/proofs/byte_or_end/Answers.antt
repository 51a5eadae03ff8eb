-- `scan_location_bytes::byte_or_end` meets its contract. Assumes nothing.
use Rattle.std.proofs.Common.{rules}
use Rattle.scan_location_bytes.proofs.Lines.{peeks}
use Rattle.scan_location_bytes.proofs.byte_or_end.Goals as goal

pub returns-then-s-at : goal.returns-then-s-at
returns-then-s-at c = search (peeks, rules)

pub returns-in-Piece : goal.returns-in-Piece
returns-in-Piece c = search (peeks, rules)

pub returns-in-Feature : goal.returns-in-Feature
returns-in-Feature c = search (peeks, rules)

pub returns-in-Contig : goal.returns-in-Contig
returns-in-Contig c = search (peeks, rules)
