pub mod Texts
pub mod Kept
pub mod Loops
