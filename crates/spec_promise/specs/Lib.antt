pub mod EmptyLines
pub mod Grounds
pub mod Promise
