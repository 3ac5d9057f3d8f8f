pub mod ByteMap
pub mod Held
pub mod Totals
pub mod Units
