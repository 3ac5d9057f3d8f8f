pub mod Words
pub mod Units
pub mod Sound
pub mod Fields
pub mod Fails
pub mod Prelude
