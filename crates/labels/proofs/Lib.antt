pub mod Recording
pub mod Labels
pub mod Distances
