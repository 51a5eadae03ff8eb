-- A head as numbers, and back.
pub mod Back
