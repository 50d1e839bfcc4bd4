pub mod Rooms
pub mod Stages
