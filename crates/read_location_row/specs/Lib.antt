-- What it means to have put rows, and the laws of that.
pub mod Rows
