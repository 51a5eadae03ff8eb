-- `scan_location::leaf_at` meets its contract. Assumes nothing.
use Rattle.std.proofs.Common.{rules}
use Rattle.scan_location.proofs.Rows.{leaves}
use Rattle.scan_location.proofs.leaf_at.Goals as goal

pub accession_at-requires : goal.accession_at-requires
accession_at-requires c = search (leaves, rules)

pub enum_known-p : goal.enum_known-p
enum_known-p c = search (leaves, rules)

pub overflow_sub-name : goal.overflow_sub-name
overflow_sub-name c = search (leaves, rules)

pub overflow_sub-name-in-Past : goal.overflow_sub-name-in-Past
overflow_sub-name-in-Past c = search (leaves, rules)

pub bases_at-requires : goal.bases_at-requires
bases_at-requires c = search (leaves, rules)

pub enum_told-1 : goal.enum_told-1
enum_told-1 c = search (leaves, rules)

pub bases_at-requires-in-Other : goal.bases_at-requires-in-Other
bases_at-requires-in-Other c = search (leaves, rules)

pub returns-in-Past : goal.returns-in-Past
returns-in-Past c = search (leaves, rules)

pub returns-in-Other : goal.returns-in-Other
returns-in-Other c = search (leaves, rules)
