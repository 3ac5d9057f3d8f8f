pub mod Steps
pub mod Cuts
pub mod Covers
pub mod Apart
