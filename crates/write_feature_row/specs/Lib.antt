-- One row: among the flat numbers, and its first line.
pub mod FirstLine
pub mod Flat
