pub mod Steps
pub mod Facts
