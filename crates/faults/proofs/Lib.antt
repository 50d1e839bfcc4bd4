pub mod Kept
pub mod First
pub mod Asked
