pub mod Lines
pub mod Bares
pub mod Stretches
