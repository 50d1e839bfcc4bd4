pub mod Report
pub mod Line
pub mod Stored
pub mod Keyed
