pub mod KeyReading
pub mod SlotReading
pub mod RowReading
pub mod KeyOrder
pub mod Entries
