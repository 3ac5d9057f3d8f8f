pub mod Slots
pub mod Values
pub mod BlobRows
pub mod Times
pub mod Leaving
