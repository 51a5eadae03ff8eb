-- The lines of a feature.
pub mod Lines
