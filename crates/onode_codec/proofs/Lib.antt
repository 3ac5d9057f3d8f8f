pub mod KeyLengths
pub mod ExtentReading
pub mod Again
