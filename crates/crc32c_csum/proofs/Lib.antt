pub mod Linear
pub mod TableFacts
pub mod Many
pub mod Laws
pub mod Multiple
pub mod Folding
pub mod ByBits
