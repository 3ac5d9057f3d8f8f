pub mod Fronts
pub mod NextKeys
pub mod Shards
pub mod Stores
