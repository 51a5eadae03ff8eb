pub mod Bared
