pub mod Buffers
pub mod Prelude
