pub mod Skips
pub mod Onwards
