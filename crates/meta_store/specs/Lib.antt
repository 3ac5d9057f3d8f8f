pub mod Store
pub mod Checks
pub mod StoreInside
