pub mod Held
pub mod Rows
pub mod LayoutBack
pub mod LayoutLengths
pub mod LayoutFine
pub mod LocationRows
pub mod ReadRows
