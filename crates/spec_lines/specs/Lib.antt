pub mod Lines
pub mod Troubles
pub mod Stands
