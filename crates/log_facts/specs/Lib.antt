pub mod Flushing
pub mod SlotFacts
pub mod HalfFacts
pub mod CrashRows
pub mod Soundness
pub mod FoundHalf
pub mod Checkpoints
pub mod Prelude
