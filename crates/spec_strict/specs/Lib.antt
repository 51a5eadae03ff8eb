pub mod Skipped
pub mod Laws
pub mod Comes
pub mod Grounds
pub mod Switch
