pub mod Booked
pub mod Loaded
pub mod Moved
