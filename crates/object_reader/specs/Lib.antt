pub mod Missing
pub mod Readable
pub mod Ranges
pub mod PartFails
pub mod ToRead
pub mod ValueRows
