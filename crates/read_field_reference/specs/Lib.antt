pub mod Standing
pub mod Parts
pub mod References
