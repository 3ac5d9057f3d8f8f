pub mod Sets
pub mod CollNames
pub mod Ascending
