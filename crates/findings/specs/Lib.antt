pub mod Findings
