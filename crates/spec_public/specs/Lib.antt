-- What the public documents say of the lines of a record.
pub mod Public
