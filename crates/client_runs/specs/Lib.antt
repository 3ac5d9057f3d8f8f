pub mod Choice
pub mod Running
pub mod Clients
pub mod Standing
pub mod Prelude
