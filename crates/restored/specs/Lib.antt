pub mod Restored
pub mod Moves
pub mod Bookings
pub mod History
