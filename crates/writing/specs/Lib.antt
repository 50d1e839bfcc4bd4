pub mod Verdicts
pub mod Digits
pub mod Write
pub mod Widths
pub mod Typed
pub mod Cases
