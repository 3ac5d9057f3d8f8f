pub mod Sums
pub mod Checking
