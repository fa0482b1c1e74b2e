pub mod Lists
pub mod StepSums
pub mod Stepped
pub mod Stepping
pub mod Sums
pub mod Lengths
pub mod Order
