-- The definitions that the contracts cite, and the parts of a plan's table.
pub mod Plans
pub mod Parts
