pub mod Wide
pub mod Compared
pub mod Given
pub mod Stands
pub mod Walked
