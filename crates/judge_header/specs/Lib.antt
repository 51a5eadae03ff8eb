pub mod Rules
pub mod Rows
