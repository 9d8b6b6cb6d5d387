pub mod Pointed
pub mod Months
pub mod Sizes
