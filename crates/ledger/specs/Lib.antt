pub mod Lists
pub mod Book
pub mod Booking
pub mod History
pub mod Demand3
pub mod Cases
