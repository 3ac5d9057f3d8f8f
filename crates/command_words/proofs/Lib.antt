pub mod Names
pub mod Found
pub mod Says
pub mod Taken
pub mod Walks
pub mod TakenLines
pub mod OneLine
pub mod Spelled
