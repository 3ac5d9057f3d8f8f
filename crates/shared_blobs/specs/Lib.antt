pub mod Blob
pub mod Lowering
