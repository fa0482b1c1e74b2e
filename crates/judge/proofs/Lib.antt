pub mod Distances
pub mod Loops
pub mod Actions
pub mod Mains
