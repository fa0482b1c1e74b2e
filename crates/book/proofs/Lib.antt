pub mod Entries
pub mod Indexes
pub mod Books
