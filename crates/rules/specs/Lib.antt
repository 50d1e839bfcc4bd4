pub mod Number
pub mod Day
pub mod Article
pub mod Rule
pub mod Values
pub mod Cases
