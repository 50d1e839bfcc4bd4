pub mod Sampled
pub mod Written
pub mod Parted
