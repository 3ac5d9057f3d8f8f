pub mod Grammar
pub mod Kept
pub mod Blocks
pub mod Script
pub mod About
pub mod Reading
pub mod Prelude
