pub mod OtherPart
pub mod OtherGoes
pub mod OtherKnown
pub mod Pieces
pub mod Prelude
