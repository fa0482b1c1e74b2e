pub mod Texts
pub mod Sent
