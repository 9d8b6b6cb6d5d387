pub mod Halves
pub mod Digits
pub mod Quotients
