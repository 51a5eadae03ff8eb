-- Lines that break at commas, as the loop sees them.
pub mod Commas
