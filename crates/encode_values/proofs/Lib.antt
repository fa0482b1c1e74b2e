pub mod Headers
pub mod Lists
pub mod Puts
pub mod Texts
pub mod Values
