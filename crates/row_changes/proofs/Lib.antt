pub mod Keys
pub mod Puts
pub mod Sorted
pub mod Ranges
pub mod Logs
pub mod Ahead
