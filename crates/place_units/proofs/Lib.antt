pub mod Slots
pub mod BlobValues
