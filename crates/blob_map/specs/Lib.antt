pub mod Pages
pub mod Shown
pub mod Normal
pub mod Prelude
