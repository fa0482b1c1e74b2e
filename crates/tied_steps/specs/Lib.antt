pub mod Places
pub mod Own
pub mod Landing
pub mod Branching
pub mod Tied
pub mod Worked
