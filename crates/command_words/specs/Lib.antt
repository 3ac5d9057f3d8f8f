pub mod FileNames
pub mod Table
pub mod CommandLine
pub mod Spelling
