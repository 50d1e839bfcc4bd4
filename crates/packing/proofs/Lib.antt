pub mod Junction
pub mod Stored
pub mod Faulted
pub mod Judging
pub mod Rest
pub mod Short
