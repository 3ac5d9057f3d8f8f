pub mod Found
pub mod Bytes
pub mod Heads
pub mod Prelude
