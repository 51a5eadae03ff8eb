-- What comparing tells.
pub mod Compared
