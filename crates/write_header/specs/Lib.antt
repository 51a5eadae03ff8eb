-- The lines of the header.
pub mod Rows
pub mod Header
pub mod Bound
