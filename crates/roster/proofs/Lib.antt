pub mod Told
pub mod Agree
pub mod Formed
pub mod Computed
pub mod Promises
