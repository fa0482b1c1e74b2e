pub mod Trailers
pub mod Cuts
