pub mod Adding
pub mod Pages
pub mod Rows
pub mod Found
pub mod Spelled
pub mod Walked
pub mod Told
