pub mod Widths
pub mod Loop
