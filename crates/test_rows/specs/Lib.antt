-- Rows in a flat room, and what the tests get.
pub mod Flats
pub mod Through
