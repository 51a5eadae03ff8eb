-- A text that the keeping writer lays over lines is read back: in a field, bare, quoted.
pub mod Tests
pub mod WrapKept
pub mod Pieces
pub mod Joins
pub mod FieldBack
pub mod BareBack
pub mod QuotedBack
