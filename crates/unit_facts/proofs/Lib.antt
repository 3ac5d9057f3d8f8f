pub mod Events
pub mod Units
pub mod RunWrites
pub mod DataKnown
pub mod HalfKnown
pub mod OtherKnown
pub mod Calls
pub mod Runs
