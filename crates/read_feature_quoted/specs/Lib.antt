pub mod Escapes
pub mod Straight
