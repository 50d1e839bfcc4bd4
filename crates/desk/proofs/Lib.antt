pub mod Answers
pub mod Digits
pub mod Messages
