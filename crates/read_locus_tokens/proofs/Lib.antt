-- The laws that the proofs cite.
pub mod Cuts
pub mod Worded
pub mod Digits
pub mod Counted
pub mod Placing
