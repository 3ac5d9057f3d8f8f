pub mod Crc32c
pub mod Steps
pub mod Folding
pub mod Prelude
