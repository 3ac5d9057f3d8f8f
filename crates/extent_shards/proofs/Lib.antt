pub mod Values
pub mod Runs
pub mod Fronts
pub mod Cutting
pub mod Joins
pub mod FirstPages
pub mod Openings
