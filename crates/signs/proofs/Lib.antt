pub mod Runs
pub mod Classes
pub mod Fits
