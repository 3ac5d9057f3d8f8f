pub mod DataUnits
pub mod Known
