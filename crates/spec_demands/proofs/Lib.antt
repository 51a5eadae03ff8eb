pub mod Six
pub mod Demand1
pub mod Lines
pub mod Demand3
pub mod Back
