-- The line of a table in rooms, and how long it can be.
pub mod Line
pub mod Bound
