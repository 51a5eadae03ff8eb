pub mod Counts
pub mod Feeds
