pub mod Chars
pub mod Tested
