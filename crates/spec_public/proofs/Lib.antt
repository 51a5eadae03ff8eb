-- What the definitions say of usual lines.
pub mod Examples
