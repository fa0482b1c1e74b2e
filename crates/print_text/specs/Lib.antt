pub mod Pieces
pub mod Sample
