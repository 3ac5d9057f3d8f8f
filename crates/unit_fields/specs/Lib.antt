pub mod Names
pub mod Fields
pub mod UnitSet
pub mod Widths
pub mod Prelude
