pub mod Named
pub mod Follows
pub mod Respelt
pub mod Entries
pub mod Unnamed
pub mod Worked
