pub mod Digits
pub mod Parts
pub mod Days
pub mod Sums
