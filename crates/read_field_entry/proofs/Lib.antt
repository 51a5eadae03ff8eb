pub mod Turns
pub mod Finding
