pub mod Notes
pub mod Gathered
