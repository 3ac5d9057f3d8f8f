pub mod Space
pub mod Room
pub mod Kept
pub mod Prelude
