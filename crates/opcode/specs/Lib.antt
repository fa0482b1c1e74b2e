pub mod Listed
pub mod PayloadLengths
pub mod Kinds
