pub mod Fitting
pub mod Promises
pub mod Stages
pub mod Zeros
