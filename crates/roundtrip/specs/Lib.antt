pub mod Record
pub mod Cases
pub mod Demand2
