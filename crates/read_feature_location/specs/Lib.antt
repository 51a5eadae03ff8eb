-- The definitions that the contracts cite, and the laws of the location reader's answers.
pub mod Places
pub mod Answers
