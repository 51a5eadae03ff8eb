pub mod Usuals
