-- What it means to have written a text, and to be filling a room.
pub mod Pen
pub mod Filling
