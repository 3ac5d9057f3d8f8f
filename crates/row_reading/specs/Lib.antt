pub mod Slots
pub mod Reading
