pub mod Met
pub mod Told
pub mod Calls
pub mod Accepted
pub mod Demand3
pub mod Joined
pub mod Agreed
