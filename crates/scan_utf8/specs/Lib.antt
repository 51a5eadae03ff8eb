pub mod Every
pub mod States
