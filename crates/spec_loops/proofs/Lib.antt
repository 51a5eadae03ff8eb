pub mod Loops
pub mod Shrinks
pub mod Stopped
