pub mod Wide
pub mod Judged
pub mod Rooms
pub mod Bundles
