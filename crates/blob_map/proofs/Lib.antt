pub mod Lay
pub mod Places
pub mod Back
pub mod Forms
