pub mod Blobs
