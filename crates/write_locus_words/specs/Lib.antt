-- The words of a name.
pub mod Words
