pub mod Examples
pub mod Tests
