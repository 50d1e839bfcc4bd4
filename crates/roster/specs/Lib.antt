pub mod Roster
pub mod Schools
pub mod Cases
pub mod Agreement
