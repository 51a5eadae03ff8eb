pub mod Fields
pub mod Tries
