pub mod Orders
pub mod Slots
pub mod Verdicts
