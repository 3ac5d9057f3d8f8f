pub mod Seen
pub mod Log
pub mod Ahead
pub mod Prelude
