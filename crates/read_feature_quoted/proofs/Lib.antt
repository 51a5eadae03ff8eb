pub mod Steps
pub mod Plains
pub mod Pieces
pub mod Values
