pub mod Cuts
pub mod Selecting
pub mod Order
mod Nine
