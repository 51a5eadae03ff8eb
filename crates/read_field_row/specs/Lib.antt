-- The pieces, what it is to put them, and the laws of that.
pub mod Pieces
pub mod Puts
pub mod Putting
