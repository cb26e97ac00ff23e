pub mod Words
pub mod Lines
pub mod Entries
pub mod Outcomes
pub mod Report
