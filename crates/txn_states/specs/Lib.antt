pub mod States
pub mod Applied
pub mod After
pub mod Writes
