-- The names of the feature table, keys and kinds: which are taken, and what a list of frequent ones would change.
pub mod Taken
pub mod Listed
