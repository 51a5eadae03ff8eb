pub mod Pieces
pub mod Puts
