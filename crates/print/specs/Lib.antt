pub mod Text
pub mod Sample
