pub mod LayoutKept
pub mod LayoutBack
pub mod LayoutFine
pub mod FeatureFine
