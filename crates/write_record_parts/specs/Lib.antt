-- How a table comes apart into its rows and the rest, and how long its record can be.
pub mod Bound
pub mod FeatureBound
pub mod Parts
pub mod RestVerdict
pub mod Split
