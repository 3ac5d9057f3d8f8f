pub mod KeyLemmas
pub mod ThingLemmas
pub mod ExtentReading
pub mod SlotReading
pub mod RowLemmas
pub mod KindLemmas
pub mod Prelude
