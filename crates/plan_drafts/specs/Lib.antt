pub mod Edits
pub mod Drafts
pub mod Layouts
pub mod Asks
pub mod Plans
pub mod Keeps
pub mod Prelude
