pub mod BareBack
pub mod FieldBack
pub mod QuotedBack
pub mod WrapKept
