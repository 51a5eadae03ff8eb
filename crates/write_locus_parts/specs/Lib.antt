-- The texts of the date, and the months.
pub mod Locus
