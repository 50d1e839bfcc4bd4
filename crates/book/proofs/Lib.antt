pub mod Sounds
pub mod Finds
pub mod Opens
pub mod Fields
