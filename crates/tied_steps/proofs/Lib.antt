pub mod Places
pub mod Own
pub mod Landing
pub mod Branching
pub mod Tying
pub mod Worked
