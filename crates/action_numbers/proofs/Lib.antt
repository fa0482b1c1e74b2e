pub mod Measured
pub mod Numbered
pub mod Refusals
