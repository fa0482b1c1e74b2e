pub mod Nears
