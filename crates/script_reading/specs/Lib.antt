pub mod Scripts
pub mod Prelude
