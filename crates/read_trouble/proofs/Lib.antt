pub mod Searched
pub mod Stray
pub mod Ends
pub mod Told
