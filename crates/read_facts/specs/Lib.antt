pub mod Walks
pub mod PageReads
pub mod Refusals
pub mod Answers
pub mod Alike
pub mod Views
pub mod Prelude
