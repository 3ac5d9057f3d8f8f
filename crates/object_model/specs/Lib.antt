pub mod Objects
pub mod Effect
pub mod Limits
pub mod Reply
pub mod Asked
pub mod Book
pub mod Prelude
