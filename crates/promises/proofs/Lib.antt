pub mod Calls
pub mod Entries
pub mod Released
