pub mod Taken
pub mod Views
