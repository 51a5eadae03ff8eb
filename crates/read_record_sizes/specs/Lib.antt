-- The definitions that the contracts cite, the head of a plan's table, and that sizes and head of a plan are those of its table.
pub mod Sizing
pub mod Heads
pub mod Tables
