pub mod Fed
pub mod Samples
