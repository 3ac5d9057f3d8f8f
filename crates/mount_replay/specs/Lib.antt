pub mod Mounting
pub mod Mounted
