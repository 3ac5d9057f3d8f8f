pub mod Bitmap
pub mod Masks
