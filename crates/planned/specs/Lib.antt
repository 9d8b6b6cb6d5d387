pub mod Walked
pub mod Values
pub mod Tabled
pub mod Reached
