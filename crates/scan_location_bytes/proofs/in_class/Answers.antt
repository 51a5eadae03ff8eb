-- `scan_location_bytes::in_class` meets its contract. Assumes nothing.
use Rattle.std.proofs.Common.{rules}
use Rattle.scan_location_bytes.proofs.Words.{classes}
use Rattle.scan_location_bytes.proofs.in_class.Goals as goal

pub enum_told-1 : goal.enum_told-1
enum_told-1 c = search (classes, rules)

pub is_digit-requires : goal.is_digit-requires
is_digit-requires c = search (classes, rules)

pub enum_told-in-Accession : goal.enum_told-in-Accession
enum_told-in-Accession c = search (classes, rules)

pub in_accession-requires : goal.in_accession-requires
in_accession-requires c = search (classes, rules)

pub enum_told-in-Gap : goal.enum_told-in-Gap
enum_told-in-Gap c = search (classes, rules)

pub in_gap-requires : goal.in_gap-requires
in_gap-requires c = search (classes, rules)

pub returns-in-Digits : goal.returns-in-Digits
returns-in-Digits c = search (classes, rules)

pub returns-in-Accession : goal.returns-in-Accession
returns-in-Accession c = search (classes, rules)

pub returns-in-Gap : goal.returns-in-Gap
returns-in-Gap c = search (classes, rules)
