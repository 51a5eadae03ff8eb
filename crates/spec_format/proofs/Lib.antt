pub mod Examples
pub mod OriginLine
pub mod Strict
