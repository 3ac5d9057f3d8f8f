pub mod CollNames
pub mod Fronts
pub mod OpFronts
pub mod TxnFronts
pub mod FieldReading
pub mod TxnReading
pub mod FieldWriting
pub mod Widths
