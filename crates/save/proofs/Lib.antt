pub mod Bodies
pub mod Firsts
pub mod Forms
pub mod Fronts
pub mod Joined
pub mod Keys
pub mod Views
pub mod Walked
