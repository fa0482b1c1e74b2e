pub mod Trailers
pub mod Mains
