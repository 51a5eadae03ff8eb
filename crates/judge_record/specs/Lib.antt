-- The rules of 11 and 13, and what is known of a table that gets as far as 11.
pub mod Rest
pub mod Rules
