-- The records that the contracts of the entry points cite.
pub mod Lent
pub mod Reads
pub mod Writes
pub mod Equal
pub mod Numbers
pub mod Told
pub mod Rounds
