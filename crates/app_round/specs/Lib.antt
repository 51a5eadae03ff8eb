-- Laws of a record read and written again.
pub mod Rounds
