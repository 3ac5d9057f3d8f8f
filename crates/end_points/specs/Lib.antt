pub mod Source
pub mod Sink
pub mod Bay
pub mod Codes
pub mod Memory
pub mod SourceInside
pub mod SinkInside
pub mod BayInside
