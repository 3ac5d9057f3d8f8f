pub mod Owning
pub mod Spaces
pub mod Example
