pub mod Examples
pub mod Taken
pub mod Listed
