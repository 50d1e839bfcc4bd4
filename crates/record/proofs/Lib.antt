pub mod Keys
pub mod Kept
pub mod Layouts
pub mod Barred
