pub mod Patches
pub mod Blocks
pub mod Loop
pub mod Steps
pub mod Actions
pub mod Labels
pub mod Main
pub mod Block
