pub mod Words
pub mod Allowed
