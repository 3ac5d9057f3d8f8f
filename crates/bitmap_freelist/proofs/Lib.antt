pub mod Alike
mod Bits
mod Flipped
pub mod GoodBitmaps
pub mod Reading
pub mod Records
mod Sets
pub mod Turning
