-- `scan_location::accession_at` meets its contract. Assumes nothing.
use Rattle.std.proofs.Common.{rules}
use Rattle.scan_location.proofs.Rows.{accessions}
use Rattle.scan_location.proofs.accession_at.Goals as goal

pub past_run-end-requires : goal.past_run-end-requires
past_run-end-requires c = search (accessions, rules)

pub returns-then-end-spot : goal.returns-then-end-spot
returns-then-end-spot c = search (accessions, rules)

pub mark_at-requires : goal.mark_at-requires
mark_at-requires c = search (accessions, rules)

pub enum_known-p : goal.enum_known-p
enum_known-p c = search (accessions, rules)

pub version_at-requires : goal.version_at-requires
version_at-requires c = search (accessions, rules)

pub enum_told-1 : goal.enum_told-1
enum_told-1 c = search (accessions, rules)

pub returns-in-Past : goal.returns-in-Past
returns-in-Past c = search (accessions, rules)

pub returns-in-Other : goal.returns-in-Other
returns-in-Other c = search (accessions, rules)
