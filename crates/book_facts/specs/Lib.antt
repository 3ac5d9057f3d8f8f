pub mod BookFacts
pub mod Selections
pub mod Rooms
pub mod Prelude
