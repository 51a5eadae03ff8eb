-- What it means to have read a location at a place.
pub mod Reads
