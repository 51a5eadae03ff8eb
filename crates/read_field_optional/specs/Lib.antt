pub mod Fields
pub mod Knowing
