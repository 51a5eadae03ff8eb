-- The name that is printed.
pub mod Names
