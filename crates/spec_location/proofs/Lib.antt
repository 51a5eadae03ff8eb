pub mod Unique
pub mod Parsed
pub mod Printed
