pub mod Shards
pub mod Cuts
pub mod Values
pub mod Reading
pub mod Prelude
