-- The answers of docs/DIFFERENCES.md.
pub mod Here
