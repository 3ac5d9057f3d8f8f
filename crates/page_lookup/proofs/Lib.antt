pub mod Reading
pub mod Finding
pub mod Fronts
pub mod Rows
