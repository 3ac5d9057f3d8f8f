pub mod Maps
pub mod Prelude
