pub mod Verdicts
pub mod Lent
pub mod Booking
pub mod Asked
pub mod Cases
pub mod Pairs
pub mod Articles
pub mod Reports
