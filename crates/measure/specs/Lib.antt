pub mod Walk
pub mod Refusals
