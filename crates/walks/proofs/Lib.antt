pub mod Heads
pub mod Contents
pub mod Walked
pub mod Tables
pub mod Judged
