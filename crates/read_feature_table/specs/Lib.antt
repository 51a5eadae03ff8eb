-- The definitions that the contracts cite, and the laws that the puts share with the scans.
pub mod Reads
pub mod Steps
pub mod Texts
