pub mod Form
pub mod Entries
pub mod Saved
pub mod Load
pub mod Moves
pub mod Cases
