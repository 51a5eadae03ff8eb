-- A header field's lines.
pub mod Field
