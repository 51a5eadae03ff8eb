-- The ORIGIN block: ten letters at a time, whole lines, and its length.
pub mod Origin
pub mod Number
pub mod Measure
pub mod Whole
