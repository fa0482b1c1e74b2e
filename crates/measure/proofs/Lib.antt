pub mod Runs
pub mod Layings
pub mod Tries
