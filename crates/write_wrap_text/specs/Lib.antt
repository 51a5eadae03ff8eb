-- Lines of free text, as the loops see them.
pub mod Line
pub mod Loop
pub mod Bound
pub mod Straight
