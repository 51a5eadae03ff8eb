pub mod Ends
pub mod Later
