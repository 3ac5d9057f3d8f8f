pub mod Places
pub mod Heads
pub mod Queues
pub mod Unsent
pub mod Ties
pub mod Choices
