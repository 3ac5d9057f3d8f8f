pub mod Laws
pub mod Places
pub mod Sums
pub mod UnitLemmas
pub mod WordLemmas
pub mod ZeroLanes
mod Ranges
pub mod Prelude
