pub mod Scans
pub mod Reading
