pub mod FileDisk
pub mod Sync
