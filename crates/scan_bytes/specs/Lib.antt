pub mod Places
pub mod Views
pub mod Sequence
pub mod Parts
