pub mod Folds
pub mod Noting
pub mod Gathering
