pub mod Branches
pub mod Arms
