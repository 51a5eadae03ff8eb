-- What is told of a location, and laws of its rows.
pub mod Rows
pub mod Told
