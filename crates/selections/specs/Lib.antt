pub mod Fair
pub mod Example
