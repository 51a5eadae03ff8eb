pub mod Laws
pub mod Definitions
