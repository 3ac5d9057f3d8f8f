pub mod Named
pub mod Bad
pub mod Marks
pub mod Tallies
pub mod Owned
pub mod DataBits
pub mod Least
