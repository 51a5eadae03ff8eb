pub mod Views
pub mod Spots
